use Rattle.std.proofs.Common.{◌≡◌, take}
use Rattle.wy_value.proofs.value.+copy.Given as goal

-- what is made is a copy of what was gone through
abbrev pub invariant-copy_fields-loop-field : goal.invariant-copy_fields-loop-field
invariant-copy_fields-loop-field l = l.made ≡ take l.field-index l.fields

abbrev pub invariant-copy_items-loop-item : goal.invariant-copy_items-loop-item
invariant-copy_items-loop-item l = l.made ≡ take l.item-index l.items
