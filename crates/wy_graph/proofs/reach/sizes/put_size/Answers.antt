use Rattle.std.proofs.Common.{◌+◌, ◌∙◌, ℕ, List, ap}
use Rattle.wy_graph.specs.reach.Reach.{sum_of}
use Rattle.wy_graph.specs.reach.Walks.{capped, size_at}
use Rattle.wy_graph.proofs.reach_lemmas.SizeLemmas.{put_some}
use Rattle.wy_graph.proofs.reach.sizes.put_size.Goals as goal

pub returns-in-Some-clause-value : goal.returns-in-Some-clause-value
returns-in-Some-clause-value c =
    put_some c.args.entries.now c.args.loops.now c.args.sizes.now c.args.number c.in-Some.entry.now c.size_of-size.result (c.is_marked.ensures.value) c.if-is_marked.false c.in-Some.ensures
    (c.size_of-size.ensures.value ∙ (ap (λ (l : List ℕ). capped (c.in-Some.entry.now.own + sum_of (size_at l) c.as_slice-in-Some.result.now)) c.as_slice.ensures ∙ ap (λ (l : List ℕ). capped (c.in-Some.entry.now.own + sum_of (size_at c.args.sizes.now) l)) c.as_slice-in-Some.ensures))
    c.set.ensures
