use Rattle.std.proofs.Common.{◌≡◌, ◌+◌, drop}
use Rattle.wy_canon.specs.wy_types.Asks as asks
use Rattle.wy_subtype.specs.Ways.{cap}
use Rattle.wy_subtype.proofs.ways.members.Given as goal

abbrev pub invariant-loop-field : goal.invariant-loop-field
invariant-loop-field l = cap (l.count + asks.members_of (drop l.field-index l.fields)) ≡ cap (asks.members_of l.fields)
