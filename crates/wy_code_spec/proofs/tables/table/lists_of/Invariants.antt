use Rattle.std.proofs.Common.{◌≡◌, ◌++◌}
use Rattle.wy_code_spec.proofs.tables.table.lists_of.Given as goal

abbrev pub invariant-loop-shape : goal.invariant-loop-shape
invariant-loop-shape l = (goal.iterator-loop-shape).can_next l.shape-iterator × (goal.iterator-loop-shape).is_finite l.shape-iterator × (l.list ++ l.shape-iterator ≡ l.fn.lists.keys)
