-- A text to which the lines of bad steps are added.
use Rattle.std.proofs.Common.{◌≡◌, ◌∙◌, ◌<◌, ◌≤◌, ◌+◌, ℕ, suc, List, ◌++◌, length, drop, get_or, map, sym, ap, arith, append_assoc}
use Rattle.std.proofs.lemmas.List.{append-nil, drop_all}
use Rattle.wy_lemmas.proofs.Lists.{next_of as at_drop}
use Rattle.wy_top.specs.Refusals.{invalid_from, invalid_line}
use Rattle.wy_batch.specs.Known.{Known}
use Rattle.wy_batch.specs.Seen.{known}
use Rattle.wy_batch.specs.declared.verdict.Verdict.{Verdict}

-- one more condition
pub invalid_more : (file : List ℕ) (xs : List Verdict) (i n : ℕ) (x : Verdict) (out new whole : List ℕ) → i < length xs → x ≡ get_or xs i x → n ≡ i + 1
    → out ++ invalid_from file (suc i) (map known (drop i xs)) ≡ whole → new ≡ out ++ invalid_line file n x.bad_step
    → new ++ invalid_from file (suc (i + 1)) (map known (drop (i + 1) xs)) ≡ whole
invalid_more file xs i n x out new whole lt is number so_far e =
    let next : i + 1 ≡ suc i = omega arith in
    let rest : List Known = map known (drop (i + 1) xs) in
    ap (λ (y : List ℕ). y ++ invalid_from file (suc (i + 1)) rest) e
    ∙ append_assoc out (invalid_line file n x.bad_step) (invalid_from file (suc (i + 1)) rest)
    ∙ ap (λ (m : ℕ). out ++ (invalid_line file m x.bad_step ++ invalid_from file (suc (i + 1)) rest)) (number ∙ next)
    ∙ ap (λ (k : ℕ). out ++ (invalid_line file (suc i) x.bad_step ++ invalid_from file (suc k) rest)) next
    ∙ ap (λ (ys : List Verdict). out ++ invalid_from file (suc i) (map known ys)) (sym (at_drop xs i x lt is))
    ∙ so_far

-- all of them
pub invalid_end : (file : List ℕ) (xs : List Verdict) (i : ℕ) (out whole : List ℕ) → length xs ≤ i → out ++ invalid_from file (suc i) (map known (drop i xs)) ≡ whole → out ≡ whole
invalid_end file xs i out whole le so_far =
    sym (append-nil out) ∙ ap (λ (ys : List Verdict). out ++ invalid_from file (suc i) (map known ys)) (sym (drop_all i xs le)) ∙ so_far

pub ruleset invalid_steps = (invalid_more, invalid_end)
