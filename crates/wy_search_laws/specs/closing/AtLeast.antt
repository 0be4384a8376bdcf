-- When a node has at least what another one has, and no other names.
use Rattle.std.specs.Prelude.{◌≡◌, List, [], ◌∷◌, Bool, true, false, ◌||◌}
use Rattle.wy_search_bounds.specs.wy_term.Term.{Symbol, Term}
use Rattle.wy_search_bounds.specs.wy_term_subst.Names.{any_symbol, numbers_by}
use Rattle.wy_search_bounds.specs.wy_check_spec.judge.Node.{Literal, Node, has_literal, has_formula}
use Rattle.wy_search_bounds.specs.wy_check_spec.valid.Literals.{is_shut}

-- each literal and each pending formula of the one is one of the other
pub record IsAtLeast (less more : Node) : Type 0 where
  pub literals : (l : Literal) → has_literal less.literals l ≡ true → has_literal more.literals l ≡ true
  pub pending : (f : Term) → has_formula less.pending f ≡ true → has_formula more.pending f ≡ true

abbrev pub any_in_literals : (Symbol → Bool) → List Literal → Bool
any_in_literals test [] = false
any_in_literals test (l ∷ ls) = any_symbol test l.atom || any_in_literals test ls

abbrev pub any_in_formulas : (Symbol → Bool) → List Term → Bool
any_in_formulas test [] = false
any_in_formulas test (f ∷ fs) = any_symbol test f || any_in_formulas test fs

-- the test holds of a symbol of the node
abbrev pub any_in_node : (Symbol → Bool) → Node → Bool
any_in_node test node = any_in_literals test node.literals || any_in_formulas test node.pending

-- the test holds of symbols alone that are a name or bind one
abbrev pub TestsNames : (Symbol → Bool) → Type 0
TestsNames test = (s : Symbol) → numbers_by s ≡ [] → test s ≡ false

-- besides, each name that is written in the other, free or bound, is written in the one
pub record IsNear (less more : Node) : Type 0 where
  pub at_least : IsAtLeast less more
  pub names : (test : Symbol → Bool) → TestsNames test → any_in_node test more ≡ true → any_in_node test less ≡ true

-- what shuts a node shuts each that has at least as much
abbrev pub ShutsMore : Type 0
ShutsMore = (less more : Node) → IsAtLeast less more → is_shut less ≡ true → is_shut more ≡ true
