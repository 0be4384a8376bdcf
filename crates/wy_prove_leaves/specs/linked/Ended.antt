-- When a node can be closed by its formulas alone, or by one literal or two.
use Rattle.std.specs.Prelude.{◌≡◌, ℕ, List, Bool, true, false, Some, None}
use Rattle.wy_term.specs.Condition.{Entry}
use Rattle.wy_prove_drafts.specs.wy_check_spec.judge.Node.{Literal, Node}
use Rattle.wy_prove_drafts.specs.wy_check_spec.valid.Literals.{is_shut}
use Rattle.wy_prove_drafts.specs.wy_check_spec.valid.Validity.{is_clash}
use Rattle.wy_prove_drafts.specs.Progress.{Progress, Ends}

-- no literal can't be
abbrev pub NoneClashes : List Literal → Type 0
NoneClashes ls = (i : ℕ) → is_clash ls i None ≡ Some true → ⊥

-- a literal can be together with each
abbrev pub ClashesWithNone : List Literal → ℕ → Type 0
ClashesWithNone ls i = (j : ℕ) → is_clash ls i (Some j) ≡ Some true → ⊥

-- so can each
abbrev pub NoTwoClash : List Literal → Type 0
NoTwoClash ls = (i : ℕ) → ClashesWithNone ls i

-- `shut` doesn't close the node, and no `clash` does
pub record IsOpen (node : Node) : Type 0 where
  pub shut : is_shut node ≡ false
  pub alone : NoneClashes node.literals
  pub together : NoTwoClash node.literals

-- A step was written that closes the node. Or none was, and this is so of it.
abbrev pub EndsUnless : (Node → Type 0) → List Entry → Progress → Progress → Bool → Type 0
EndsUnless P types old new true = Ends types old new
EndsUnless P types old new false = (new ≡ old) × P old.node
