-- What a list of formulas that are to be added leads to.
use Rattle.std.specs.Prelude.{ℕ, List, [], ◌∷◌, Bool, true, false}
use Rattle.wy_check_spec.specs.wy_term.Term.{Term}
use Rattle.wy_check_spec.specs.judge.Node.{Node, added, denied_one}

-- a node with a formula, or with the denial of one
abbrev pub after_one : Node → Term → Bool → Node
after_one node f true = added node f
after_one node f false = denied_one node f

-- a node with these formulas, one after the other
abbrev pub after_all : (ℕ → Term) → Node → List (ℕ × Bool) → Node
after_all at node [] = node
after_all at node (p ∷ ps) = after_all at (after_one node (at p.0) p.1) ps

-- these formulas, or the denials of these
abbrev pub tasks_of : Bool → List ℕ → List (ℕ × Bool)
tasks_of holds [] = []
tasks_of holds (k ∷ ks) = (k, holds) ∷ tasks_of holds ks
