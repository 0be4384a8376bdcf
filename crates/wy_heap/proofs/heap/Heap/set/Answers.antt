use Rattle.std.proofs.Common.{◌≡◌, ◌∷◌, [], sym, subst, ◌∙◌}
use Rattle.wy_heap.specs.declared.part.Part.{Part}
use Rattle.wy_heap.specs.Standing.{Counts, Acts}
use Rattle.wy_heap.proofs.LeadLemmas.{acts_from}
use Rattle.wy_heap.proofs.heap.Heap.set.Goals as goal

pub returns-in-Ok-clause-acts : goal.returns-in-Ok-clause-acts
returns-in-Ok-clause-acts c others stands =
    let h = c.args.self.now in
    let n = c.put_along.new.self in
    let made : c.replace.new.dest ≡ c.in-Ok.made = c.replace.ensures.after ∙ c.of.ensures in
    let counts = subst (λ (q : Part). Counts h (q ∷ c.part-2.result ∷ others)) (sym c.part.ensures)
    (subst (λ (q : Part). Counts h (c.args.p.now ∷ q ∷ others)) (sym c.part-2.ensures) stands.counts) in
    subst (λ (q : Part). Acts h n (q ∷ []) others) (sym made)
    (acts_from h n (c.in-Ok.made ∷ []) others (c.args.p.now ∷ c.args.v ∷ others) stands (c.in-Ok.ensures.wrote.leads others counts) c.in-Ok.ensures.within c.in-Ok.ensures.kept.0 c.in-Ok.ensures.kept.1)
