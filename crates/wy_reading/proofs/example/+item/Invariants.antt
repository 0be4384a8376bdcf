use Rattle.std.proofs.Common.{◌≡◌, ◌+◌, ◌-◌, ◌*◌, true}
use Rattle.wy_reading.specs.declared.example.Byte.TheVariants.{Is}
use Rattle.wy_reading.specs.ListGrammar.{has}
use Rattle.wy_reading.specs.ListReading.{items, next, item_in}
use Rattle.wy_reading.specs.Reader.{loop}
use Rattle.wy_reading.proofs.example.+item.Given as goal

abbrev pub decreases-item : goal.decreases-item
decreases-item l = 4 * l.depth

abbrev pub decreases-next : goal.decreases-next
decreases-next l = 4 * l.depth + 1

abbrev pub decreases-items : goal.decreases-items
decreases-items l = 4 * l.depth + 2

abbrev pub decreases-bracketed : goal.decreases-bracketed
decreases-bracketed l = 4 * l.depth + 3

-- what the loop still reads completes what it made
abbrev pub invariant-items-loop-turn : goal.invariant-items-loop-turn
invariant-items-loop-turn l =
    items (item_in l.depth true) l.fn.text ≡ loop (has (Is 44)) (next (item_in l.depth true)) (l._turn-end - l._turn) l.all l.rest
