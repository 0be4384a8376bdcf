-- A function or method whose ensures clauses have numbers from this one on.
use Rattle.std.specs.Prelude.{ℕ}
use Rattle.wy_core.specs.CoreTree as tree
use Rattle.wy_core.specs.CoreSeen.{seen_routine, seen_exprs}
use Rattle.wy_core.specs.declared.declarations.Routine.{Routine}
use Rattle.wy_vc_terms.specs.wy_vc_spec.Numbered.{Node, numbered_list, numbered_routine}

-- only its ensures clauses are numbered so
abbrev pub numbered_behind : Routine → ℕ → tree.Routine Node
numbered_behind r k = record (numbered_routine (seen_routine r) 0) { postconditions = numbered_list (seen_exprs r.postconditions) k }
