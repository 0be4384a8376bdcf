use Rattle.std.proofs.Common.{◌∙◌, List, length, subst, sym}
use Rattle.wy_graph.specs.declared.closure.clauses.Clause.{Clause}
use Rattle.wy_graph.specs.closure.Closure.{HaveHeads}
use Rattle.wy_graph.proofs.reach_lemmas.ClauseLemmas.{heads, reach_if}
use Rattle.wy_graph.proofs.reach.clauses.constrained.Goals as goal

pub close-requires : goal.close-requires
close-requires c = record { heads = subst (λ (cs : List Clause). HaveHeads (length c.args.entries.now) cs) (sym (c.as_slice.ensures.value ∙ c.in_ok-clauses.ensures.value)) (heads c.args.entries.now) }

pub returns : goal.returns
returns c = record { value = reach_if c.args.entries.now c.as_slice.result.now c.close.result (c.as_slice.ensures.value ∙ c.in_ok-clauses.ensures.value) c.close.ensures.reached c.close.ensures.closed }
