-- What is told of the terms that are still to be looked at, where `at` gives the term of a number.
use Rattle.std.specs.Prelude.{ℕ, List, [], ◌∷◌, Bool, false, ◌||◌}
use Rattle.wy_check_nodes.specs.wy_term.Term.{Term}
use Rattle.wy_check_splits.specs.Free.{stands_free}

-- the test holds of one of these numbers
abbrev pub any_over : (ℕ → Bool) → List ℕ → Bool
any_over test [] = false
any_over test (k ∷ ks) = test k || any_over test ks

-- the test holds of the first of one of these pairs
abbrev pub any_first : (ℕ → Bool) → List (ℕ × Bool) → Bool
any_first test [] = false
any_first test (p ∷ ps) = test p.0 || any_first test ps

-- the name stands free in the term with this number
abbrev pub free_in : (ℕ → Term) → List ℕ → ℕ → ℕ → Bool
free_in at w n k = stands_free w n (at k)
