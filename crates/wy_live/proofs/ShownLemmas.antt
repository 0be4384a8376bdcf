-- The list of truths that words show.
use Rattle.std.proofs.Common.{◌≡◌, ◌<◌, ◌≤◌, ℕ, zero, suc, Bool, false, List, [], ◌∷◌, ◌++◌, length, get_or, refl, sym, ap, ◌∙◌, subst, arith, length-append}
use Rattle.std.proofs.lemmas.Bool.{cases_lt}
use Rattle.std.proofs.lemmas.List.{get_or_append_left, get_or_push, get_or_past, ext_get_or}
use Rattle.wy_lemmas.proofs.Choices.{either}
use Rattle.wy_live.specs.declared.words.Word.{Word}
use Rattle.wy_live.specs.Sets.{Variables, has, put}
use Rattle.wy_live.specs.Words.{in_words, shown, Within}

pub length_shown : (ws : List Word) (n : ℕ) → length (shown ws n) ≡ n
length_shown ws zero = refl
length_shown ws (suc n) = let h = length_shown ws n in omega (arith, length-append {A = Bool}, h)

shown_at : (ws : List Word) (n x : ℕ) → x < n → get_or (shown ws n) x false ≡ in_words ws x
shown_at ws zero x h = absurd (omega arith)
shown_at ws (suc n) x h = either
    (λ (lt : x < n). let l = length_shown ws n in get_or_append_left (shown ws n) (in_words ws n ∷ []) false x (omega (arith, l, lt)) ∙ shown_at ws n x lt)
    (λ (le : n ≤ x). let e : x ≡ n = omega arith in subst (λ z. get_or (shown ws n ++ in_words ws n ∷ []) z false ≡ in_words ws z) (sym e) (get_or_push (shown ws n) (in_words ws n) false n (length_shown ws n)))
    (cases_lt x n)

-- a variable is in the set where it is in a word
pub has_shown : (ws : List Word) (n : ℕ) → Within ws n → (x : ℕ) → has (shown ws n) x ≡ in_words ws x
has_shown ws n within x = either (λ (h : x < n). shown_at ws n x h)
    (λ (h : n ≤ x). let l = length_shown ws n in get_or_past (shown ws n) x false (omega (arith, l, h)) ∙ sym (within x h))
    (cases_lt x n)

-- words that have what a set of this length has show it
pub shown_is : (ws : List Word) (n : ℕ) (s : Variables) → length s ≡ n → ((x : ℕ) → in_words ws x ≡ has s x) → shown ws n ≡ s
shown_is ws n s len same = ext_get_or false (shown ws n) s (length_shown ws n ∙ sym len) (λ x h. let l = length_shown ws n in shown_at ws n x (omega (arith, l, h)) ∙ same x)

pub length_put_within : (s : Variables) (x : ℕ) (b : Bool) → x < length s → length (put s x b) ≡ length s
length_put_within [] x b h = absurd (omega arith)
length_put_within (c ∷ s) zero b h = refl
length_put_within (c ∷ s) (suc x) b h = ap (λ n. suc n) (length_put_within s x b (omega arith))

pub length_put_behind : (s : Variables) (x : ℕ) (b : Bool) → length s ≤ x → length (put s x b) ≡ suc x
length_put_behind [] zero b h = refl
length_put_behind [] (suc x) b h = ap (λ n. suc n) (length_put_behind [] x b (omega arith))
length_put_behind (c ∷ s) zero b h = absurd (omega arith)
length_put_behind (c ∷ s) (suc x) b h = ap (λ n. suc n) (length_put_behind s x b (omega arith))
