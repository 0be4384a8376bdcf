-- How many steps the pieces of code have.
use Rattle.std.proofs.Common.{◌≤◌, ◌+◌, ℕ, Bool, true, false, cond, List, [], ◌∷◌, ◌++◌, length, arith, length-append}
use Rattle.wy_code.specs.declared.pieces.steps.Step.{Step}
use Rattle.wy_code.specs.declared.pieces.steps.Step.TheVariants.{GoesOn, GoesBack, GoesOnUnless}
use Rattle.wy_code.specs.pieces.Steps.{clear, where_true, fork, turns}

pub clear_small : (rs : List ℕ) → length (clear rs) ≤ 1
clear_small [] = omega arith
clear_small (r ∷ rs) = omega arith

pub where_true_small : (r : ℕ) (xs : List Step) → length (where_true r xs) ≤ length xs + 1
where_true_small r [] = omega arith
where_true_small r (x ∷ xs) = omega arith

pub fork_small : (r : ℕ) (first second : List Step) → length (fork r first second) ≤ length first + length second + 2
fork_small r first [] = let h : length (where_true r first) ≤ length first + 1 = where_true_small r first in omega arith
fork_small r first (s ∷ second) = omega (arith, length-append first (GoesOn (length (s ∷ second)) ∷ s ∷ second))

pub turns_small : (test body : List Step) (r : ℕ) → length (turns test r body) ≤ length test + length body + 2
turns_small test body r =
    let back = GoesBack (length (test ++ GoesOnUnless r (length body + 1) ∷ body)) in
    omega (arith, length-append test (GoesOnUnless r (length body + 1) ∷ (body ++ back ∷ [])), length-append body (back ∷ []))

pub cond_small : (b : Bool) (xs ys : List Step) (n : ℕ) → length xs ≤ n → length ys ≤ n → length (cond b xs ys) ≤ n
cond_small true xs ys n h k = h
cond_small false xs ys n h k = k
