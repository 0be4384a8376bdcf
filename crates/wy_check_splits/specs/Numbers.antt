-- The numbers of the names in terms that are given with signs, the last one first.
use Rattle.std.specs.Prelude.{ℕ, List, [], ◌∷◌, ◌++◌, Bool}
use Rattle.wy_check_nodes.specs.wy_term.Term.{Term}
use Rattle.wy_check_nodes.specs.wy_term_subst.Names.{numbers_in}

abbrev pub numbers_of : (ℕ → Term) → List (ℕ × Bool) → List ℕ
numbers_of at [] = []
numbers_of at (p ∷ ps) = numbers_in (at p.0) ++ numbers_of at ps
