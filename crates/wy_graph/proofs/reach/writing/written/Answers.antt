use Rattle.std.proofs.Common.{◌∙◌, ap, List, ℕ, subst, sym}
use Rattle.wy_graph.specs.reach.Walks.{AreSizes, loops_by}
use Rattle.wy_graph.proofs.reach_lemmas.LoopLemmas.{marks_are}
use Rattle.wy_graph.proofs.reach.writing.written.Goals as goal

pub sizes_of-requires-clause-loops : goal.sizes_of-requires-clause-loops
sizes_of-requires-clause-loops c =
    marks_are c.args.entries.now c.in_ok-labels.labels c.as_slice-3.result.now (c.as_slice-3.ensures ∙ (c.in_ok-loops.ensures.value ∙ ap (λ (l : List ℕ). loops_by l 0 c.args.entries.now) c.as_slice.ensures)) c.in_ok-labels.ensures.cycles

pub returns-clause-value : goal.returns-clause-value
returns-clause-value c =
    c.marks_of.ensures.value c.args.entries.now
    (marks_are c.args.entries.now c.in_ok-labels.labels c.as_slice-5.result.now (c.as_slice-5.ensures ∙ (c.in_ok-loops.ensures.value ∙ ap (λ (l : List ℕ). loops_by l 0 c.args.entries.now) c.as_slice.ensures)) c.in_ok-labels.ensures.cycles)
    (subst (λ (l : List ℕ). AreSizes l c.args.entries.now) (sym c.as_slice-6.ensures) c.in_ok-sizes.ensures.value)
