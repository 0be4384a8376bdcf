use Rattle.std.proofs.Common.{refl}
use Rattle.wy_heap.proofs.heap.Heap.put.Goals as goal

pub returns-clause-adds : goal.returns-clause-adds
returns-clause-adds c = record {
  vacant = c.in-Ok.ensures.was_vacant;
  node = _;
  changes = record { shapes = refl; updates = c.in-Ok.ensures.updates };
  one = refl;
  shape_is = refl;
  parts_are = refl;
}
