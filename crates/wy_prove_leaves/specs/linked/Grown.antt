-- Steps that are written as long as they add anything.
use Rattle.std.specs.Prelude.{◌≡◌, List, Bool, false, Some}
use Rattle.wy_term.specs.Term.{Term}
use Rattle.wy_term.specs.Condition.{Entry}
use Rattle.wy_prove_drafts.specs.wy_check_spec.judge.Node.{Node, with_formulas}
use Rattle.wy_prove_drafts.specs.wy_check_spec.valid.Validity.{chain_stated}
use Rattle.wy_prove_drafts.specs.Progress.{Progress, Goes}

-- what a chain of the terms states, if it is valid at the node, is there
abbrev pub AddsNothing : Node → List Term → Type 0
AddsNothing node ts = (fs : List Term) → chain_stated node.literals ts ≡ Some fs → with_formulas node fs ≡ node

-- steps were written; where they added nothing, the node is as it was, and this is so of it
pub record Grows (types : List Entry) (P : Node → Type 0) (old new : Progress) (grew : Bool) : Type 0 where
  pub goes : Goes types old new
  pub still : grew ≡ false → (new.node ≡ old.node) × P old.node
