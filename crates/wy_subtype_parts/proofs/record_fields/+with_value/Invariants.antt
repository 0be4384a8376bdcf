use Rattle.std.proofs.Common.{length}
use Rattle.wy_subtype_parts.proofs.record_fields.+with_value.Given as goal

abbrev pub decreases-with_value : goal.decreases-with_value
decreases-with_value l = length l.way.now
