use Rattle.std.proofs.Common.{◌≡◌, take}
use Rattle.wy_term_text.proofs.show.copied_fields.Given as goal

abbrev pub invariant-loop-field : goal.invariant-loop-field
invariant-loop-field l = l.copies.items ≡ take l.field-index l.fields
