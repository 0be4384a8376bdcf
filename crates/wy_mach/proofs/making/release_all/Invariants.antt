use Rattle.std.proofs.Common.{◌≡◌, [], ◌++◌, List, vec_len}
use Rattle.wy_heap.specs.declared.part.Part.{Part}
use Rattle.wy_heap.specs.Nodes.{map_of}
use Rattle.wy_heap.specs.Standing.{Stands, AreHeld, Acts}
use Rattle.wy_heap.specs.Changing.{Lasts}
use Rattle.wy_mach.proofs.making.release_all.Given as goal

abbrev pub invariant-places : goal.invariant-places
invariant-places l = record {
  acts : (others : List Part) → Stands l.fn.heap (l.fn.places.items ++ others) → Acts l.fn.heap l.heap [] (l.places.items ++ others);
  held : AreHeld l.heap l.places.items;
  lasts : Lasts (map_of l.fn.heap) (map_of l.heap);
  shapes : l.heap.shapes ≡ l.fn.heap.shapes;
  cap : l.heap.cap ≡ l.fn.heap.cap;
  copies : l.heap.copies ≡ l.fn.heap.copies;
}

abbrev pub decreases-places : goal.decreases-places
decreases-places l = vec_len l.places
