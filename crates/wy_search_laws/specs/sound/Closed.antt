-- What it means that the search closes a node.
use Rattle.std.specs.Prelude.{◌≡◌, ℕ, List, [], ◌∷◌, ℤ, pos, ◌≤ℤ◌}
use Rattle.wy_search_bounds.specs.wy_term.Meaning.{Names}
use Rattle.wy_search_bounds.specs.wy_term.Condition.{Entry}
use Rattle.wy_search_bounds.specs.wy_lin.Linear.{Linear}
use Rattle.wy_search_bounds.specs.wy_lin.Worth.{worth}
use Rattle.wy_search_bounds.specs.wy_lin_eliminate.declared.steps.Steps.{Steps}
use Rattle.wy_search_bounds.specs.wy_lin_eliminate.declared.steps.Elim.TheVariants.{Refuted}
use Rattle.wy_search_bounds.specs.wy_lin_eliminate.Elimination.{elimination}
use Rattle.wy_search_bounds.specs.wy_check_spec.judge.Node.{Literal, Node}
use Rattle.wy_search_bounds.specs.wy_check_spec.judge.Told.{IsTrueNode}
use Rattle.wy_search_bounds.specs.wy_term.Sorts.{formula_sort}
use Rattle.wy_search_bounds.specs.wy_term_subst.kept_sorts.SortKept.{HasSort}
use Rattle.wy_search_bounds.specs.wy_check_laws.sound.Sortedness.{AreFormulas}
use Rattle.wy_search_bounds.specs.wy_search_spec.Expansion.{Spot}
use Rattle.wy_search_bounds.specs.wy_search_spec.Tree.{next, closed}

-- ---- forms

-- the form is at least 0
abbrev pub IsNatural : (ℕ → ℤ) → Linear ℕ → Type 0
IsNatural values f = pos 0 ≤ℤ worth values f

abbrev pub AreNatural : (ℕ → ℤ) → List (Linear ℕ) → Type 0
AreNatural values [] = Unit {0}
AreNatural values (f ∷ fs) = IsNatural values f × AreNatural values fs

-- forms that elimination refutes aren't all at least 0, whatever their variables stand for
abbrev pub RefutedFormsAreNegative : Type 0
RefutedFormsAreNegative = (forms : List (Linear ℕ)) (steps : Steps) → elimination forms ≡ Refuted steps → (values : ℕ → ℤ) → AreNatural values forms → ⊥

-- ---- nodes

abbrev pub AreLiterals : List Literal → Type 0
AreLiterals [] = Unit {0}
AreLiterals (l ∷ ls) = HasSort l.atom formula_sort × AreLiterals ls

-- each formula of the node has parts of the sorts that their places want
pub record IsSortedNode (node : Node) : Type 0 where
  pub literals : AreLiterals node.literals
  pub pending : AreFormulas node.pending

-- a node that the search closes isn't true, whatever its names stand for
abbrev pub ClosedNodesAreFalse : Type 0
ClosedNodesAreFalse = (types : List Entry) (spot : Spot) → IsSortedNode spot.node → next types spot ≡ closed → (names : Names) → IsTrueNode names spot.node → ⊥
