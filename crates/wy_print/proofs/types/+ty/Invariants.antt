use Rattle.std.proofs.Common.{◌≡◌, ◌++◌, drop}
use Rattle.wy_print.specs.Pieces.{listed, more_listed}
use Rattle.wy_print.specs.TypeText.{shown_field_tys}
use Rattle.wy_print.proofs.types.+ty.Given as goal

-- what is left completes what is written
abbrev pub invariant-write_fields-loop-field : goal.invariant-write_fields-loop-field
invariant-write_fields-loop-field l =
    l.text.items ++ more_listed (shown_field_tys (drop l.field-index l.rest)) ≡ l.fn.text.items ++ listed (shown_field_tys l.fn.fields)
