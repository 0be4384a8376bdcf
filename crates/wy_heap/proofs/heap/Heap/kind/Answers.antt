use Rattle.std.proofs.Common.{sym, subst}
use Rattle.wy_heap.specs.Nodes.{map_of}
use Rattle.wy_heap.specs.Meaning.{IsMeant}
use Rattle.wy_heap.proofs.RowLemmas.{first_meant}
use Rattle.wy_heap.proofs.heap.Heap.kind.Goals as goal

pub part_kind-requires : goal.part_kind-requires
part_kind-requires c =
    let h = c.args.self.now in
    record { meant = subst (IsMeant (map_of h)) (sym c.part.ensures) (first_meant h c.args.p.now c.requires.held.0 c.requires.held.1) }
