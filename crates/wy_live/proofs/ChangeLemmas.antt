-- A word written over, put in and taken out.
use Rattle.std.proofs.Common.{◌≡◌, ◌≢◌, ◌<◌, ◌/◌, ◌%◌, ℕ, zero, suc, false, not, ◌&&◌, ◌||◌, ◌==◌, List, [], ◌∷◌, length, set, take, drop, refl, sym, ap, ◌∙◌, arith}
use Rattle.std.specs.List.{insert, remove}
use Rattle.std.proofs.lemmas.List.{take-append-drop}
use Rattle.wy_lemmas.proofs.Choices.{or_none as or_nothing, same_to as is_same, or_swapped as or_first, by_same}
use Rattle.wy_live.specs.declared.words.Word.{Word}
use Rattle.wy_live.specs.Words.{is_set, in_word, in_words, place_at, InOrder, BeginsAt, Changed}
use Rattle.wy_live.proofs.Truth.{is_other}
use Rattle.wy_live.proofs.BitLemmas.{none_set}
use Rattle.wy_live.proofs.WordLemmas.{Ascending, in_append, elsewhere, there, none_behind, first_before, tail_ascending, begun_elsewhere}

-- ---- what is in them

set_others : (ws : List Word) (i x : ℕ) (w : Word) → i < length ws → w.place ≡ place_at ws i → x / 64 ≢ place_at ws i → in_words (set ws i w) x ≡ in_words ws x
set_others [] i x w h e ne = absurd (omega arith)
set_others (v ∷ ws) zero x w h e ne = ap (λ b. b || in_words ws x) (elsewhere w x (λ k. ne (sym k ∙ e)) ∙ sym (elsewhere v x (λ k. ne (sym k))))
set_others (v ∷ ws) (suc i) x w h e ne = ap (λ b. in_word v x || b) (set_others ws i x w (omega arith) e ne)

set_here : (ws : List Word) (i x : ℕ) (w : Word) → Ascending ws → i < length ws → w.place ≡ place_at ws i → x / 64 ≡ place_at ws i → in_words (set ws i w) x ≡ is_set w.bits (x % 64)
set_here [] i x w up h e is = absurd (omega arith)
set_here (v ∷ ws) zero x w up h e is = ap (λ b. in_word w x || b) (none_behind v ws x up (sym is)) ∙ (or_nothing (in_word w x) ∙ there w x (e ∙ sym is))
set_here (v ∷ ws) (suc i) x w up h e is = ap (λ b. b || in_words (set ws i w) x) (first_before v ws i x up (omega arith) (sym is)) ∙ set_here ws i x w (tail_ascending v ws up) (omega arith) e is

pub set_changed : (ws : List Word) (i : ℕ) (w : Word) → InOrder ws → i < length ws → w.place ≡ place_at ws i → Changed ws (set ws i w) (place_at ws i) w.bits
set_changed ws i w order h e = record { here = λ x is. set_here ws i x w order.ascending h e is; others = λ x ne. set_others ws i x w h e ne }

remove_others : (ws : List Word) (i x : ℕ) → i < length ws → x / 64 ≢ place_at ws i → in_words (remove ws i) x ≡ in_words ws x
remove_others [] i x h ne = absurd (omega arith)
remove_others (v ∷ ws) zero x h ne = sym (ap (λ b. b || in_words ws x) (elsewhere v x (λ k. ne (sym k))))
remove_others (v ∷ ws) (suc i) x h ne = ap (λ b. in_word v x || b) (remove_others ws i x (omega arith) ne)

remove_here : (ws : List Word) (i x : ℕ) → Ascending ws → i < length ws → x / 64 ≡ place_at ws i → in_words (remove ws i) x ≡ false
remove_here [] i x up h is = absurd (omega arith)
remove_here (v ∷ ws) zero x up h is = none_behind v ws x up (sym is)
remove_here (v ∷ ws) (suc i) x up h is = ap (λ b. b || in_words (remove ws i) x) (first_before v ws i x up (omega arith) (sym is)) ∙ remove_here ws i x (tail_ascending v ws up) (omega arith) is

pub remove_changed : (ws : List Word) (i bits : ℕ) → InOrder ws → i < length ws → bits ≡ 0 → Changed ws (remove ws i) (place_at ws i) bits
remove_changed ws i bits order h none = record {
  here = λ x is. remove_here ws i x order.ascending h is ∙ sym (ap (λ b. is_set b (x % 64)) none ∙ none_set (x % 64));
  others = λ x ne. remove_others ws i x h ne;
}

in_insert : (ws : List Word) (i x : ℕ) (w : Word) → in_words (insert ws i w) x ≡ (in_word w x || in_words ws x)
in_insert ws i x w =
    in_append (take i ws) (w ∷ drop i ws) x
    ∙ or_first (in_words (take i ws) x) (in_word w x) (in_words (drop i ws) x)
    ∙ ap (λ b. in_word w x || b) (sym (in_append (take i ws) (drop i ws) x) ∙ ap (λ l. in_words l x) (take-append-drop i ws))

pub insert_changed : (ws : List Word) (i : ℕ) (w : Word) → InOrder ws → BeginsAt ws w.place i → (i < length ws → place_at ws i ≢ w.place) → Changed ws (insert ws i w) w.place w.bits
insert_changed ws i w order begins ne = record {
  here = λ x is. in_insert ws i x w ∙ (ap (λ b. in_word w x || b) (begun_elsewhere ws i x w.place order begins ne is ∙ none_set (x % 64)) ∙ (or_nothing (in_word w x) ∙ there w x (sym is)));
  others = λ x no. in_insert ws i x w ∙ ap (λ b. b || in_words ws x) (elsewhere w x (λ k. no (sym k)));
}

-- ---- one variable

same_rest : (x v : ℕ) → x / 64 ≡ v / 64 → (x % 64 == v % 64) ≡ (x == v)
same_rest x v e = by_same x v (λ b. (x % 64 == v % 64) ≡ b) (λ is. is_same (x % 64) (v % 64) (ap (λ z. z % 64) is)) (λ ne. is_other (x % 64) (v % 64) (λ is. ne (omega (arith, e, is))))

pub put_value : (ws new : List Word) (v place b bits : ℕ) → Changed ws new place bits → place ≡ v / 64 → ((x : ℕ) → x / 64 ≡ place → in_words ws x ≡ is_set b (x % 64)) → ((k : ℕ) → is_set bits k ≡ (k == v % 64 || is_set b k)) → (x : ℕ) → in_words new x ≡ (x == v || in_words ws x)
put_value ws new v place b bits changed at old set x = by_same (x / 64) place (λ _. in_words new x ≡ (x == v || in_words ws x))
    (λ is. changed.here x is ∙ (set (x % 64) ∙ (ap (λ t. t || is_set b (x % 64)) (same_rest x v (is ∙ at)) ∙ sym (ap (λ t. x == v || t) (old x is)))))
    (λ no. changed.others x no ∙ sym (ap (λ t. t || in_words ws x) (is_other x v (λ e. no (ap (λ z. z / 64) e ∙ sym at)))))

pub take_value : (ws new : List Word) (v place b bits : ℕ) → Changed ws new place bits → place ≡ v / 64 → ((x : ℕ) → x / 64 ≡ place → in_words ws x ≡ is_set b (x % 64)) → ((k : ℕ) → k < 64 → is_set bits k ≡ (not (k == v % 64) && is_set b k)) → (x : ℕ) → in_words new x ≡ (not (x == v) && in_words ws x)
take_value ws new v place b bits changed at old set x = by_same (x / 64) place (λ _. in_words new x ≡ (not (x == v) && in_words ws x))
    (λ is. changed.here x is ∙ (set (x % 64) (omega arith) ∙ (ap (λ t. not t && is_set b (x % 64)) (same_rest x v (is ∙ at)) ∙ sym (ap (λ t. not (x == v) && t) (old x is)))))
    (λ no. changed.others x no ∙ sym (ap (λ t. not t && in_words ws x) (is_other x v (λ e. no (ap (λ z. z / 64) e ∙ sym at)))))

-- what isn't there isn't taken out
pub take_none : (ws : List Word) (v : ℕ) → in_words ws v ≡ false → (x : ℕ) → in_words ws x ≡ (not (x == v) && in_words ws x)
take_none ws v none x = by_same x v (λ b. in_words ws x ≡ (not b && in_words ws x)) (λ e. ap (λ z. in_words ws z) e ∙ none) (λ _. refl)
