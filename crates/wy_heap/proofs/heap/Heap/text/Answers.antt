use Rattle.std.proofs.Common.{◌∷◌, sym, subst}
use Rattle.wy_heap.specs.Nodes.{map_of}
use Rattle.wy_heap.specs.Meaning.{IsMeant}
use Rattle.wy_heap.proofs.LeadLemmas.{among_meant, among_first}
use Rattle.wy_heap.proofs.heap.Heap.text.Goals as goal

pub text_of-requires-clause-meant : goal.text_of-requires-clause-meant
text_of-requires-clause-meant c =
    let held = c.requires.held in
    subst (IsMeant (map_of c.args.self.now)) (sym c.part.ensures)
    (among_meant c.args.self.now (c.args.p.now ∷ held.0) c.args.p.now held.1.counts (among_first c.args.p.now held.0))
