use Rattle.std.proofs.Common.{ℕ, ◌<◌, IsSome}
use Rattle.wy_value.specs.Datum.{Datum}
use Rattle.wy_heap.specs.Nodes.{map_of}
use Rattle.wy_heap.specs.Meaning.{Means}
use Rattle.wy_heap.specs.Slots.{child, item_at}
use Rattle.wy_mach.specs.Texts.{code_in}
use Rattle.wy_mach.proofs.texts.text_length.Given as goal

abbrev pub invariant-loop-i : goal.invariant-loop-i
invariant-loop-i l = (d : Datum) → Means (map_of l.heap) d l.place → (k : ℕ) → k < l.i → IsSome (code_in (child d (item_at k)))
