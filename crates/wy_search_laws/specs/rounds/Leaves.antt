-- When a condition that the search finds has a valid certificate.
use Rattle.std.specs.Prelude.{◌≡◌, ◌⊎◌, ℕ, List, [], ◌∷◌, true, Some}
use Rattle.wy_search_bounds.specs.wy_term.Term.{Term}
use Rattle.wy_search_bounds.specs.wy_term.Sorts.{formula_sort}
use Rattle.wy_search_bounds.specs.wy_term.Condition.{Entry, Condition}
use Rattle.wy_search_bounds.specs.wy_term.Unfolding.{AreClosed}
use Rattle.wy_search_bounds.specs.wy_term_subst.kept_sorts.SortKept.{HasSort}
use Rattle.wy_search_bounds.specs.wy_term_text.reread.Folded.{IsFolded}
use Rattle.wy_search_bounds.specs.wy_check_spec.judge.Node.{Literal, Node, is_atom}
use Rattle.wy_search_bounds.specs.wy_cert.Steps.{Written}
use Rattle.wy_search_bounds.specs.wy_check_spec.valid.Validity.{IsValid}
use Rattle.wy_search_bounds.specs.wy_check_spec.valid.Trees.{Tree, steps_in, Closes}
use Rattle.wy_search_bounds.specs.wy_search_spec.Classes.{clashes}
use Rattle.wy_search_bounds.specs.wy_search_spec.Bounds.{refuted, ending}
use Rattle.wy_search_bounds.specs.wy_search_spec.Splitting.{next_atom}
use Rattle.wy_search_bounds.specs.wy_search_spec.Tree.{found, IsVerdict}
use Rattle.wy_search_bounds.specs.wy_check_laws.sound.Sortedness.{AreFormulas, IsSortedCondition, AreSortedSteps}
use Rattle.wy_search_laws.specs.closing.AtLeast.{IsAtLeast}

-- ---- nodes

-- each atom is a formula of sorted parts
abbrev pub AreSortedAtoms : List Literal → Type 0
AreSortedAtoms [] = Unit {0}
AreSortedAtoms (l ∷ ls) = HasSort l.atom formula_sort × AreSortedAtoms ls

-- each atom is folded
abbrev pub AreFoldedAtoms : List Literal → Type 0
AreFoldedAtoms [] = Unit {0}
AreFoldedAtoms (l ∷ ls) = IsFolded l.atom × AreFoldedAtoms ls

abbrev pub AreFoldedFormulas : List Term → Type 0
AreFoldedFormulas [] = Unit {0}
AreFoldedFormulas (f ∷ fs) = IsFolded f × AreFoldedFormulas fs

-- the literals and the pending formulas are formulas of sorted parts
abbrev pub IsSortedThroughout : Node → Type 0
IsSortedThroughout node = AreSortedAtoms node.literals × AreFormulas node.pending

-- they are folded
abbrev pub IsFoldedThroughout : Node → Type 0
IsFoldedThroughout node = AreFoldedAtoms node.literals × AreFoldedFormulas node.pending

-- a tree of steps closes each node of sorted formulas that has at least as much; the steps' terms have sorted parts
abbrev pub AreClosedBySteps : List Entry → Node → Type 0
AreClosedBySteps types node = (more : Node) → IsSortedThroughout more → IsAtLeast node more → (t : Tree) × Closes types t more × AreSortedSteps (steps_in t)

-- the search closes the node by its classes or by elimination
abbrev pub IsLeaf : Node → Type 0
IsLeaf node = (clashes node ≡ true) ⊎ (ending node ≡ refuted)

-- steps close what the search closes so
abbrev pub LeavesClose : Type 0
LeavesClose = (types : List Entry) (node : Node) → IsSortedThroughout node → IsFoldedThroughout node → IsLeaf node → AreClosedBySteps types node

-- ---- splits

-- what a node of sorted formulas splits on is an atom
abbrev pub SplitsOnAtoms : Type 0
SplitsOnAtoms = (node : Node) (a : Term) → AreFormulas node.pending → next_atom node ≡ Some a → is_atom a ≡ true

-- ---- conditions

-- the hypotheses and the goal are folded
abbrev pub IsFoldedCondition : Condition → Type 0
IsFoldedCondition c = AreFoldedFormulas c.hyps × IsFolded c.goal

-- ---- certificates

-- the condition has a valid certificate, whose steps have terms of sorted parts and split on formulas alone
abbrev pub HasCertificate : Condition → Type 0
HasCertificate c = (steps : List Written) × IsValid c steps × AreSortedSteps steps

-- Each condition of sorted and folded formulas that the search finds within some budget has a valid certificate. The formula of each of its named types has no other free name than the one that is listed with it.
abbrev pub FoundIsCertified : Type 0
FoundIsCertified =
    (c : Condition) (budget leaves : ℕ) → IsSortedCondition c → AreClosed c.types → IsFoldedCondition c → IsVerdict c budget (found leaves) → HasCertificate c
