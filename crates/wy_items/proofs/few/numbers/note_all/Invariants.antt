use Rattle.std.proofs.Common.{◌≡◌, ℕ, nat_eq, take}
use Rattle.std.specs.HashMap.{get}
use Rattle.wy_items.specs.few.Places.{number_place}
use Rattle.wy_items.proofs.few.numbers.note_all.Given as goal

-- those that are passed are noted
abbrev pub invariant-loop-i : goal.invariant-loop-i
invariant-loop-i l = (t : ℕ) → get nat_eq l.places t ≡ number_place (take l.i l.numbers) t 0
