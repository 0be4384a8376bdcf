use Rattle.std.proofs.Common.{◌≡◌, take}
use Rattle.wy_canon.proofs.copies.copy_fields.Given as goal

abbrev pub invariant-loop-field : goal.invariant-loop-field
invariant-loop-field l = l.made ≡ take l.field-index l.all
