use Rattle.std.proofs.Common.{◌∷◌, sym, subst, ap, arith}
use Rattle.wy_heap.specs.declared.part.Part.{Part}
use Rattle.wy_heap.specs.Nodes.{map_of, holds}
use Rattle.wy_heap.specs.Meaning.{IsMeant}
use Rattle.wy_heap.specs.Comparing.{Tells}
use Rattle.wy_heap.proofs.CountLemmas.{holds_one}
use Rattle.wy_heap.proofs.LeadLemmas.{among_meant, among_first}
use Rattle.wy_heap.proofs.heap.Heap.equal.Goals as goal

pub compared-requires-clause-left : goal.compared-requires-clause-left
compared-requires-clause-left c =
    let held = c.requires.held in
    subst (IsMeant (map_of c.args.self.now)) (sym c.part.ensures)
    (among_meant c.args.self.now (c.args.p.now ∷ c.args.q.now ∷ held.0) c.args.p.now held.1.counts (among_first c.args.p.now (c.args.q.now ∷ held.0)))

pub compared-requires-clause-right : goal.compared-requires-clause-right
compared-requires-clause-right c =
    let held = c.requires.held in
    subst (IsMeant (map_of c.args.self.now)) (sym c.part-2.ensures)
    (among_meant c.args.self.now (c.args.p.now ∷ c.args.q.now ∷ held.0) c.args.q.now held.1.counts (λ k e. omega (arith, ap (holds k) e, holds_one k)))

pub returns-in-Ok : goal.returns-in-Ok
returns-in-Ok c =
    let m = map_of c.args.self.now in
    record {
      value = subst (λ (p : Part). Tells m p c.args.q.now c.in-Ok.same) c.part.ensures
          (subst (λ (q : Part). Tells m c.part.result q c.in-Ok.same) c.part-2.ensures c.in-Ok.ensures);
    }
