use Rattle.std.proofs.Common.{◌≡◌, ◌++◌, drop}
use Rattle.wy_code.specs.Listing.{more_slots}
use Rattle.wy_code.proofs.listing.write_more_slots.Given as goal

-- what is left completes what is written
abbrev pub invariant-loop-slot : goal.invariant-loop-slot
invariant-loop-slot l = l.text.items ++ more_slots (drop l.slot-index l.slots) ≡ l.fn.text.items ++ more_slots l.fn.slots
