use Rattle.std.proofs.Common.{◌≡◌, drop}
use Rattle.wy_canon.specs.Digests.{with_fields}
use Rattle.wy_canon.proofs.digests.with_fields.Given as goal

abbrev pub invariant-loop-field : goal.invariant-loop-field
invariant-loop-field l = with_fields l.made (drop l.field-index l.fields) ≡ with_fields l.digest l.fields
