use Rattle.std.proofs.Common.{◌∷◌, [], sym, subst}
use Rattle.wy_heap.specs.declared.part.Part.{Part}
use Rattle.wy_heap.specs.Standing.{Counts}
use Rattle.wy_heap.proofs.LeadLemmas.{acts_from, within_same}
use Rattle.wy_heap.proofs.heap.Heap.release.Goals as goal

pub returns-clause-acts : goal.returns-clause-acts
returns-clause-acts c others stands =
    let h = c.args.self.now in
    let n = c.free.new.self in
    acts_from h n [] others (c.args.p ∷ others) stands
    (c.free.ensures.leads others (subst (λ (p : Part). Counts h (p ∷ others)) (sym c.spent-part.ensures) stands.counts))
    (within_same h n c.free.ensures.lower c.free.ensures.rest.cap stands.within) c.free.ensures.rest.cap c.free.ensures.rest.shapes
