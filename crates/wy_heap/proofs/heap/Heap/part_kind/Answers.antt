use Rattle.std.proofs.Common.{subst}
use Rattle.wy_heap.specs.declared.part.Part.TheVariants.{Key}
use Rattle.wy_heap.specs.Nodes.{map_of}
use Rattle.wy_heap.specs.Meaning.{Means}
use Rattle.wy_heap.proofs.SlotLemmas.{means_there}
use Rattle.wy_heap.proofs.heap.Heap.part_kind.Goals as goal

pub index-requires : goal.index-requires
index-requires c =
    let h = c.args.self.now in
    let meant = c.requires.meant in
    means_there h meant.0 (Key c.in-Key.key) (subst (Means (map_of h) meant.0) c.in-Key.is meant.1)
