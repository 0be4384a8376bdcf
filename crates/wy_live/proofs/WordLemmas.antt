-- What is in words behind each change, and their order.
use Rattle.std.proofs.Common.{◌≡◌, ◌≢◌, ◌<◌, ◌≤◌, ◌/◌, ◌%◌, ℕ, zero, suc, false, ◌&&◌, ◌||◌, List, [], ◌∷◌, ◌++◌, length, refl, sym, ap, ◌∙◌, arith}
use Rattle.std.proofs.lemmas.Bool.{cases_lt}
use Rattle.wy_lemmas.proofs.Choices.{or_none as or_nothing, same_to as is_same, or_regrouped as or_assoc, either}
use Rattle.wy_live.specs.declared.words.Word.{Word}
use Rattle.wy_live.specs.Words.{is_set, in_word, in_words, place_at, bits_at, InOrder, BeginsAt}
use Rattle.wy_live.proofs.Truth.{is_other}
use Rattle.wy_live.proofs.BitLemmas.{none_set}

abbrev pub Ascending : List Word → Type 0
Ascending ws = (i j : ℕ) → i < j → j < length ws → place_at ws i < place_at ws j

pub in_append : (a b : List Word) (x : ℕ) → in_words (a ++ b) x ≡ (in_words a x || in_words b x)
in_append [] b x = refl
in_append (w ∷ a) b x = ap (λ t. in_word w x || t) (in_append a b x) ∙ or_assoc (in_word w x) (in_words a x) (in_words b x)

pub in_push : (a : List Word) (w : Word) (x : ℕ) → in_words (a ++ w ∷ []) x ≡ (in_words a x || in_word w x)
in_push a w x = in_append a (w ∷ []) x ∙ ap (λ t. in_words a x || t) (or_nothing (in_word w x))

-- a word at another place
pub elsewhere : (w : Word) (x : ℕ) → w.place ≢ x / 64 → in_word w x ≡ false
elsewhere w x ne = ap (λ b. b && is_set w.bits (x % 64)) (is_other w.place (x / 64) ne)

pub there : (w : Word) (x : ℕ) → w.place ≡ x / 64 → in_word w x ≡ is_set w.bits (x % 64)
there w x e = ap (λ b. b && is_set w.bits (x % 64)) (is_same w.place (x / 64) e)

pub none_there : (ws : List Word) (x : ℕ) → ((j : ℕ) → j < length ws → place_at ws j ≢ x / 64) → in_words ws x ≡ false
none_there [] x f = refl
none_there (w ∷ ws) x f = ap (λ b. b || in_words ws x) (elsewhere w x (f 0 (omega arith))) ∙ none_there ws x (λ j h. f (suc j) (omega arith))

pub tail_ascending : (w : Word) (ws : List Word) → Ascending (w ∷ ws) → Ascending ws
tail_ascending w ws up i j l h = up (suc i) (suc j) (omega arith) (omega arith)

-- behind the first word
pub none_behind : (w : Word) (ws : List Word) (x : ℕ) → Ascending (w ∷ ws) → w.place ≡ x / 64 → in_words ws x ≡ false
none_behind w ws x up e = none_there ws x (λ j h same. let l : w.place < place_at ws j = up 0 (suc j) (omega arith) (omega arith) in absurd (omega (arith, l, e, same)))

-- the first word is before the one at this place
pub first_before : (w : Word) (ws : List Word) (i x : ℕ) → Ascending (w ∷ ws) → i < length ws → place_at ws i ≡ x / 64 → in_word w x ≡ false
first_before w ws i x up h e = elsewhere w x (λ same. let l : w.place < place_at ws i = up 0 (suc i) (omega arith) (omega arith) in absurd (omega (arith, l, e, same)))

-- the one word at a place tells
pub in_at : (ws : List Word) (i x : ℕ) → Ascending ws → i < length ws → place_at ws i ≡ x / 64 → in_words ws x ≡ is_set (bits_at ws i) (x % 64)
in_at [] i x up h e = absurd (omega arith)
in_at (w ∷ ws) zero x up h e = ap (λ b. in_word w x || b) (none_behind w ws x up e) ∙ (or_nothing (in_word w x) ∙ there w x e)
in_at (w ∷ ws) (suc i) x up h e = ap (λ b. b || in_words ws x) (first_before w ws i x up (omega arith) e) ∙ in_at ws i x (tail_ascending w ws up) (omega arith) e

pub begun_there : (ws : List Word) (i x place : ℕ) → InOrder ws → i < length ws → place_at ws i ≡ place → x / 64 ≡ place → in_words ws x ≡ is_set (bits_at ws i) (x % 64)
begun_there ws i x place order h e is = in_at ws i x order.ascending h (e ∙ sym is)

-- none is there where the first one that isn't before it is elsewhere
pub begun_elsewhere : (ws : List Word) (i x place : ℕ) → InOrder ws → BeginsAt ws place i → (i < length ws → place_at ws i ≢ place) → x / 64 ≡ place → in_words ws x ≡ is_set 0 (x % 64)
begun_elsewhere ws i x place order begins ne is = none_there ws x (λ j h same. either
    (λ (l : j < i). let b = begins.before j l in absurd (omega (arith, b, same, is)))
    (λ (l : i ≤ j). either
    (λ (r : i < j). let b = begins.behind i (omega arith) (omega arith) in let u = order.ascending i j r h in absurd (omega (arith, b, u, same, is)))
    (λ (r : j ≤ i). let e : j ≡ i = omega (arith, l, r) in ne (omega (arith, l, r, h)) (ap (λ k. place_at ws k) (sym e) ∙ (same ∙ is)))
    (cases_lt i j))
    (cases_lt j i)) ∙ sym (none_set (x % 64))
