use Rattle.std.proofs.Common.{sym, subst}
use Rattle.wy_heap.specs.Nodes.{map_of}
use Rattle.wy_heap.specs.Meaning.{IsMeant}
use Rattle.wy_heap.proofs.RowLemmas.{first_meant}
use Rattle.wy_heap.proofs.heap.Heap.has_path.Goals as goal

pub part_has_path-requires-clause-meant : goal.part_has_path-requires-clause-meant
part_has_path-requires-clause-meant c =
    let h = c.args.self.now in
    subst (IsMeant (map_of h)) (sym c.part.ensures) (first_meant h c.args.p.now c.requires.held.0 c.requires.held.1)
