use Rattle.std.proofs.Common.{◌≡◌}
use Rattle.wy_value.proofs.fields.FieldMap.into_items.Given as goal

-- the items are those that the map gave
abbrev pub invariant-loop-entry : goal.invariant-loop-entry
invariant-loop-entry l = l.items ≡ l.yielded
