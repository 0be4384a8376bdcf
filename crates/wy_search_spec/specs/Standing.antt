-- Which terms and formulas stand in a node, by first appearance.
use Rattle.std.specs.Prelude.{ℕ, zero, suc, List, [], ◌∷◌, ◌++◌, map, Bool, true, false, ◌||◌, if◌then◌else◌}
use Rattle.wy_check_spec.specs.wy_term.Term.{Symbol, Term, Of, Parts, no_parts, part, leaf, int_name, every, exists}
use Rattle.wy_check_spec.specs.wy_term.Scope.{free_names}
use Rattle.wy_check_spec.specs.wy_term.Sorts.{Sort, int_sort, val_sort, formula_sort, sort_in}
use Rattle.wy_check_spec.specs.judge.Node.{Literal, Node, has_formula}

-- what stands at a place, and the names that are bound around it
pub record Standing : Type 0 where
  pub what : Term
  pub around : List Term

abbrev pub bound_by : Term → Standing → Standing
bound_by x s = record { what = s.what; around = x ∷ s.around }

abbrev pub part_at : List (List Standing) → ℕ → List Standing
part_at [] i = []
part_at (p ∷ ps) zero = p
part_at (p ∷ ps) (suc i) = part_at ps i

abbrev pub all_parts : List (List Standing) → List Standing
all_parts [] = []
all_parts (p ∷ ps) = p ++ all_parts ps

-- the bounds of a quantifier, and then its body, in which the name is bound
abbrev pub of_range : Term → List (List Standing) → List Standing
of_range x parts = part_at parts 0 ++ (part_at parts 1 ++ map (bound_by x) (part_at parts 2))

abbrev pub below : Symbol → List (List Standing) → List Standing
below (every word n) parts = of_range (leaf (int_name word n)) parts
below (exists word n) parts = of_range (leaf (int_name word n)) parts
below symbol parts = all_parts parts

abbrev mutual
  -- a term and what stands in its parts, a term before its parts
  pub standing_in : Term → List Standing
  standing_in (Of symbol ps) = record { what = Of symbol ps; around = [] } ∷ below symbol (standing_in_parts ps)

  pub standing_in_parts : Parts → List (List Standing)
  standing_in_parts no_parts = []
  standing_in_parts (part t ts) = standing_in t ∷ standing_in_parts ts

-- one of the first is one of the second
abbrev pub have_common : List Term → List Term → Bool
have_common [] ys = false
have_common (x ∷ xs) ys = has_formula ys x || have_common xs ys

-- the list, with those more that are without bound names and aren't in it yet
abbrev pub with_unbound : List Term → List Standing → List Term
with_unbound done [] = done
with_unbound done (s ∷ ss) =
    with_unbound (if has_formula done s.what || have_common (free_names s.what) s.around then done else done ++ s.what ∷ []) ss

abbrev pub in_literals : List Literal → List Standing
in_literals [] = []
in_literals (l ∷ ls) = standing_in l.atom ++ in_literals ls

abbrev pub in_formulas : List Term → List Standing
in_formulas [] = []
in_formulas (f ∷ fs) = standing_in f ++ in_formulas fs

-- the terms and formulas that stand in the node without bound names: those of the literals in order, then those of the pending formulas
abbrev pub standing : Node → List Term
standing node = with_unbound [] (in_literals node.literals ++ in_formulas node.pending)

abbrev pub is_term_sort : Sort → Bool
is_term_sort int_sort = true
is_term_sort val_sort = true
is_term_sort formula_sort = false

abbrev pub only_terms : List Term → List Term
only_terms [] = []
only_terms (t ∷ ts) = if is_term_sort (sort_in t) then t ∷ only_terms ts else only_terms ts

-- the terms present
abbrev pub present : Node → List Term
present node = only_terms (standing node)
