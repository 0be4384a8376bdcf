use Rattle.std.proofs.Common.{◌≡◌, ◌++◌}
use Rattle.wy_code_spec.proofs.tables.table.names_of.Given as goal

abbrev pub invariant-loop-name : goal.invariant-loop-name
invariant-loop-name l = (goal.iterator-loop-name).can_next l.name-iterator × (goal.iterator-loop-name).is_finite l.name-iterator × (l.list ++ l.name-iterator ≡ l.fn.names.keys)
