-- The terms of variables, by number.
use Rattle.std.specs.Prelude.{ℕ, List, map, length, Option, option_map}
use Rattle.wy_term.specs.Term.{Term}
use Rattle.wy_term.specs.Nodes.{Plain, tree_at}
use Rattle.wy_vc_terms.specs.wy_vc_spec.Variables.{Vars}
use Rattle.wy_vc_operations.specs.Growing.{AreSlotsBelow}

-- the term of a variable
abbrev pub slot_of : List Plain → Option ℕ → Option Term
slot_of nodes v = option_map (tree_at nodes) v

-- the terms of the variables that have one
abbrev pub slots_of : List Plain → List (Option ℕ) → Vars
slots_of nodes vs = map (option_map (tree_at nodes)) vs

-- the numbers are those of terms of the list
abbrev pub AreSlots : List Plain → List (Option ℕ) → Type 0
AreSlots nodes vs = AreSlotsBelow (length nodes) vs
