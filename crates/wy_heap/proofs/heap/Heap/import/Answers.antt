use Rattle.std.proofs.Common.{◌++◌, ◌∷◌, [], List, sym, subst, ◌∙◌}
use Rattle.wy_heap.specs.declared.part.Part.{Part}
use Rattle.wy_heap.specs.Standing.{Counts, Acts}
use Rattle.wy_heap.specs.Importing.{Carries}
use Rattle.wy_heap.proofs.ImportLemmas.{import_acts, carries_failed, ones_same}
use Rattle.wy_heap.proofs.heap.Heap.import.Goals as goal

pub returns-in-Ok-clause-acts : goal.returns-in-Ok-clause-acts
returns-in-Ok-clause-acts c others stands =
    let h = c.args.self.now in
    let n = c.import_all.new.self in
    subst (λ (p : Part). Acts h n (p ∷ []) others) (sym c.of.ensures)
    (import_acts h n c.in-Ok.part others stands (subst (Carries h n []) c.in-Ok.ensures.alone c.in-Ok.ensures.carries) c.in-Ok.ensures.grew)

pub returns-clause-no_memory : goal.returns-clause-no_memory
returns-clause-no_memory c =
    let h = c.args.self.now in
    let b = c.import_all.new.self in
    let same = carries_failed h b c.free_all.new.self c.import_all.new.done.items c.requires.held.0 c.requires.held.1.counts c.in-Err.ensures.carries
    (λ others counts. c.free_all.ensures.counts others (subst (λ (ps : List Part). Counts b (ps ++ others)) (sym c.deref.ensures.value) counts))
    (λ base others counts upholds more. c.free_all.ensures.upheld base others (subst (λ (ps : List Part). Counts b (ps ++ others)) (sym c.deref.ensures.value) counts) upholds more) in
    record { nodes = same.nodes; counts = same.counts; copies = c.free_all.ensures.rest.copies ∙ c.in-Err.ensures.grew.copies }

pub returns-clause-ones : goal.returns-clause-ones
returns-clause-ones c = ones_same c.args.self.now c.free_all.new.self (returns-clause-no_memory c).counts
