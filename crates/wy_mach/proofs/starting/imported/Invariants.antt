use Rattle.std.proofs.Common.{◌≡◌, ◌≤◌, ◌+◌, ◌-◌, length, take, vec_len}
use Rattle.std.specs.Prelude.{vec_capacity}
use Rattle.wy_value.specs.Seen.{seen_items}
use Rattle.wy_heap.specs.Nodes.{map_of}
use Rattle.wy_heap.specs.Meaning.{MeanAll}
use Rattle.wy_heap.specs.Extending.{Extends}
use Rattle.wy_heap.specs.Importing.{OnlyOnes}
use Rattle.wy_heap.specs.Standing.{Stands}
use Rattle.wy_mach.proofs.starting.imported.Given as goal

abbrev pub invariant-loop-i : goal.invariant-loop-i
invariant-loop-i l = record {
  stands : Stands l.heap l.places.items;
  mean : MeanAll (map_of l.heap) (seen_items (take l.i l.args)) l.places.items;
  ones : OnlyOnes l.fn.heap l.heap;
  extends : Extends l.fn.heap.shapes l.heap.shapes;
  copies : l.heap.copies ≡ l.fn.heap.copies;
  cap : l.heap.cap ≡ l.fn.heap.cap;
  room : vec_len l.places + (length l.args - l.i) ≤ vec_capacity l.places;
}
