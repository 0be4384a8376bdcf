use Rattle.std.proofs.Common.{◌≡◌, take}
use Rattle.wy_value.proofs.value.+equality.Given as goal

-- both begin alike
abbrev pub invariant-same_fields-loop-i : goal.invariant-same_fields-loop-i
invariant-same_fields-loop-i l = take l.i l.a ≡ take l.i l.b

abbrev pub invariant-same_items-loop-i : goal.invariant-same_items-loop-i
invariant-same_items-loop-i l = take l.i l.a ≡ take l.i l.b
