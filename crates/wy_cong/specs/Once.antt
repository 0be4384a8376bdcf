-- Terms listed once each, and the first that passes a test.
use Rattle.std.specs.Prelude.{◌≡◌, ℕ, Bool, List, [], ◌∷◌, ◌++◌, Option, Some, None, if◌then◌else◌}
use Rattle.wy_search_spec.specs.wy_check_spec.judge.Judgement.{of_atom}
use Rattle.wy_search_spec.specs.wy_check_spec.judge.Node.{Node, has_formula}
use Rattle.wy_check_splits.specs.wy_check_nodes.declared.branch.Branch.{Branch}
use Rattle.wy_search_spec.specs.Splitting.{atoms_in, is_open}
use Rattle.wy_term.specs.Term.{Term}

-- the terms that are there, and behind them those of the list that aren't yet, each once
abbrev pub once : List Term → List Term → List Term
once done [] = done
once done (t ∷ ts) = once (if has_formula done t then done else done ++ t ∷ []) ts

-- the first of the list that passes the test
abbrev pub first_by : (Term → Bool) → List Term → Option Term
first_by test [] = None
first_by test (t ∷ ts) = if test t then Some t else first_by test ts

-- the atoms of formulas by their numbers, one formula after the other
abbrev pub atoms_at : (ℕ → Term) → List ℕ → List Term
atoms_at at [] = []
atoms_at at (f ∷ fs) = atoms_in (at f) ++ atoms_at at fs

-- the two nodes have the same literals and pending formulas
pub record SameBranch (b c : Branch) : Type 0 where
  pub literals : c.literals.keys ≡ b.literals.keys
  pub pending : c.pending.keys ≡ b.pending.keys

-- neither the atom nor its denial stands among the node's literals
abbrev pub undecided : Node → Term → Bool
undecided node a = is_open (of_atom node.literals a)
