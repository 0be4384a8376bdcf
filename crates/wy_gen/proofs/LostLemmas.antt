-- Between two variables that are lost there is none.
use Rattle.std.proofs.Common.{◌≡◌, ◌<◌, ◌≤◌, ℕ, zero, suc, true, cond, List, [], ◌∷◌, ◌++◌, sym, ap, ◌∙◌, arith}
use Rattle.std.proofs.lemmas.List.{append-nil}
use Rattle.wy_lemmas.proofs.Choices.{either}
use Rattle.wy_live.specs.Sets.{Variables}
use Rattle.wy_live.specs.Lost.{is_lost, NoneLost}
use Rattle.std.proofs.lemmas.Bool.{cases_lt}
use Rattle.wy_code_spec.specs.compiled.Expressions.{lost_below}

none_more : (s t : Variables) (m n : ℕ) → m ≤ n → NoneLost s t m n → lost_below s t n ≡ lost_below s t m
none_more s t m zero le f = let e : zero ≡ m = omega arith in ap (λ k. lost_below s t k) e
none_more s t m (suc n) le f = either
    (λ (h : n < m). let e : suc n ≡ m = omega arith in ap (λ k. lost_below s t k) e)
    (λ (h : m ≤ n).
    ap (λ b. lost_below s t n ++ cond b (n ∷ []) []) (f n h (omega arith))
    ∙ (append-nil (lost_below s t n) ∙ none_more s t m n h (λ x l r. f x l (omega arith))))
    (cases_lt n m)

-- before the first one
pub first_lost : (s t : Variables) (m : ℕ) → NoneLost s t 0 m → [] ≡ lost_below s t m
first_lost s t m f = sym (none_more s t 0 m (omega arith) f)

-- from one to the next
pub next_lost : (s t : Variables) (n m : ℕ) (rs : List ℕ) → rs ≡ lost_below s t n → is_lost s t n ≡ true → suc n ≤ m → NoneLost s t (suc n) m → rs ++ n ∷ [] ≡ lost_below s t m
next_lost s t n m rs e lost le f =
    ap (λ l. l ++ n ∷ []) e
    ∙ (sym (ap (λ b. lost_below s t n ++ cond b (n ∷ []) []) lost)
    ∙ sym (none_more s t (suc n) m le f))
