use Rattle.std.proofs.Common.{drop}
use Rattle.wy_heap.specs.Nodes.{map_of}
use Rattle.wy_heap.specs.Meaning.{IsMeant}
use Rattle.wy_heap.specs.Slots.{IsPath}
use Rattle.wy_heap.proofs.finding.part_has_path.Given as goal

abbrev pub invariant-loop-i : goal.invariant-loop-i
invariant-loop-i l = record {
  meant : IsMeant (map_of l.heap) l.at;
  back : IsPath l.heap l.at (drop l.i l.path) → IsPath l.heap l.fn.part l.path;
  forth : IsPath l.heap l.fn.part l.path → IsPath l.heap l.at (drop l.i l.path);
}
