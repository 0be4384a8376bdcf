-- What it means that nodes close where their classes clash.
use Rattle.std.specs.Prelude.{◌≡◌, List, [], ◌∷◌, true}
pub use Rattle.wy_search_laws.specs.sound.Closed.{AreLiterals}
use Rattle.wy_search_bounds.specs.wy_term.Folding.{folded}
use Rattle.wy_search_bounds.specs.wy_term.Condition.{Entry}
use Rattle.wy_search_bounds.specs.wy_check_spec.judge.Node.{Literal, Node, has_literal}
use Rattle.wy_search_bounds.specs.wy_check_spec.valid.Trees.{Tree, steps_in, Closes}
use Rattle.wy_search_bounds.specs.wy_search_spec.Classes.{clashes}
use Rattle.wy_search_bounds.specs.wy_check_laws.sound.Sortedness.{AreFormulas, AreSortedSteps}

-- folding the literals' atoms changes nothing
abbrev pub AreFolded : List Literal → Type 0
AreFolded [] = Unit {0}
AreFolded (l ∷ ls) = (folded l.atom ≡ l.atom) × AreFolded ls

-- the second node has each literal of the first
pub record HasLiterals (base node : Node) : Type 0 where
  pub has : (l : Literal) → has_literal base.literals l ≡ true → has_literal node.literals l ≡ true

-- a tree of steps closes the node; its terms have sorted parts
pub record HasSteps (types : List Entry) (node : Node) : Type 0 where
  pub steps : Tree
  pub closes : Closes types steps node
  pub sorted : AreSortedSteps (steps_in steps)

-- where the classes of a node clash, whose formulas are sorted and its literals folded, steps close each node that has its literals
abbrev pub ClashesClose : Type 0
ClashesClose = (types : List Entry) (base node : Node) → AreLiterals base.literals → AreFormulas base.pending → AreFolded base.literals → clashes base ≡ true → HasLiterals base node → HasSteps types node
