-- A text to which conditions are added, one by one.
use Rattle.std.proofs.Common.{◌≡◌, ◌∙◌, ◌<◌, ◌≤◌, ◌+◌, ℕ, zero, suc, List, [], ◌∷◌, ◌++◌, length, drop, get_or, map, sym, ap, arith, append_assoc}
use Rattle.std.proofs.lemmas.List.{append-nil, drop_all}
use Rattle.wy_term.specs.declared.cond.Cond.{Cond}
use Rattle.wy_vc.specs.Told.{Told}
use Rattle.wy_top.specs.Owed.{condition_text, conditions_text}

-- the first of what is left
at_drop : (xs : List Cond) (i : ℕ) (x : Cond) → i < length xs → x ≡ get_or xs i x → drop i xs ≡ x ∷ drop (i + 1) xs
at_drop [] i x lt is = absurd (omega (arith, lt))
at_drop (y ∷ xs) zero x lt is = ap (λ (z : Cond). z ∷ xs) (sym is)
at_drop (y ∷ xs) (suc i) x lt is = at_drop xs i x (omega (arith, lt)) is ∙ ap (λ (k : ℕ). x ∷ drop k (y ∷ xs)) behind
  where
    behind : suc (i + 1) ≡ suc i + 1
    behind = omega arith

-- one more condition is written
pub list_more : (bytes : List ℕ) (seen : Cond → Told) (xs : List Cond) (i n : ℕ) (x : Cond) (out new whole : List ℕ) → i < length xs → x ≡ get_or xs i x → n ≡ suc i
    → out ++ conditions_text bytes (suc i) (map seen (drop i xs)) ≡ whole → new ≡ out ++ condition_text bytes n (seen x)
    → new ++ conditions_text bytes (suc (i + 1)) (map seen (drop (i + 1) xs)) ≡ whole
list_more bytes seen xs i n x out new whole lt is number so_far e =
    let next : i + 1 ≡ suc i = omega arith in
    let rest : List Told = map seen (drop (i + 1) xs) in
    ap (λ (y : List ℕ). y ++ conditions_text bytes (suc (i + 1)) rest) e
    ∙ append_assoc out (condition_text bytes n (seen x)) (conditions_text bytes (suc (i + 1)) rest)
    ∙ ap (λ (m : ℕ). out ++ (condition_text bytes m (seen x) ++ conditions_text bytes (suc (i + 1)) rest)) number
    ∙ ap (λ (k : ℕ). out ++ (condition_text bytes (suc i) (seen x) ++ conditions_text bytes (suc k) rest)) next
    ∙ ap (λ (ys : List Cond). out ++ conditions_text bytes (suc i) (map seen ys)) (sym (at_drop xs i x lt is))
    ∙ so_far

-- all are written
pub list_end : (bytes : List ℕ) (seen : Cond → Told) (xs : List Cond) (i : ℕ) (out whole : List ℕ) → length xs ≤ i → out ++ conditions_text bytes (suc i) (map seen (drop i xs)) ≡ whole → out ≡ whole
list_end bytes seen xs i out whole le so_far =
    sym (append-nil out) ∙ ap (λ (ys : List Cond). out ++ conditions_text bytes (suc i) (map seen ys)) (sym (drop_all i xs le)) ∙ so_far

pub ruleset list_steps = (list_more, list_end)
