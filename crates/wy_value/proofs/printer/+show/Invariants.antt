use Rattle.std.proofs.Common.{◌≡◌, ◌++◌, drop}
use Rattle.wy_value.specs.Seen.{seen_items, seen_fields}
use Rattle.wy_value.specs.Shown.{shown_items, more_items, shown_fields, more_fields}
use Rattle.wy_value.proofs.printer.+show.Given as goal

-- what is left completes what is written
abbrev pub invariant-write_items-loop-item : goal.invariant-write_items-loop-item
invariant-write_items-loop-item l =
    l.text.items ++ more_items (seen_items (drop l.item-index l.rest)) ≡ l.fn.text.items ++ shown_items (seen_items l.fn.items)

abbrev pub invariant-write_fields-loop-field : goal.invariant-write_fields-loop-field
invariant-write_fields-loop-field l =
    l.text.items ++ more_fields (seen_fields (drop l.field-index l.rest)) ≡ l.fn.text.items ++ shown_fields (seen_fields l.fn.fields)
