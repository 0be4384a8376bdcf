use Rattle.std.proofs.Common.{◌≡◌, ◌+◌, ◌-◌, ◌*◌, true}
use Rattle.wy_reading.specs.Reader.{loop}
use Rattle.wy_value.specs.declared.character.Character.TheVariants.{Is}
use Rattle.wy_value.specs.Characters.{has}
use Rattle.wy_value.specs.Reading as spec
use Rattle.wy_value.proofs.nested.+nested.Given as goal

abbrev pub decreases-value : goal.decreases-value
decreases-value l = 8 * l.depth

abbrev pub decreases-elem : goal.decreases-elem
decreases-elem l = 8 * l.depth + 1

abbrev pub decreases-next : goal.decreases-next
decreases-next l = 8 * l.depth + 2

abbrev pub decreases-field : goal.decreases-field
decreases-field l = 8 * l.depth + 2

abbrev pub decreases-next_field : goal.decreases-next_field
decreases-next_field l = 8 * l.depth + 3

abbrev pub decreases-elems : goal.decreases-elems
decreases-elems l = 8 * l.depth + 4

abbrev pub decreases-fields : goal.decreases-fields
decreases-fields l = 8 * l.depth + 4

abbrev pub decreases-bracketed : goal.decreases-bracketed
decreases-bracketed l = 8 * l.depth + 5

-- what the loop still reads completes what it made
abbrev pub invariant-elems-loop-turn : goal.invariant-elems-loop-turn
invariant-elems-loop-turn l =
    spec.elems true (spec.value_in l.depth true) l.fn.text ≡ loop (has (Is 44)) (spec.next true (spec.value_in l.depth true)) (l._turn-end - l._turn) l.all l.rest

abbrev pub invariant-fields-loop-turn : goal.invariant-fields-loop-turn
invariant-fields-loop-turn l =
    spec.fields true (spec.value_in l.depth true) l.fn.text ≡ loop (has (Is 44)) (spec.next_field true (spec.value_in l.depth true)) (l._turn-end - l._turn) l.all l.rest
