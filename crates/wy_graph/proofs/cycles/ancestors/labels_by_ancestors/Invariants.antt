use Rattle.wy_graph.proofs.cycles_lemmas.AncestorLemmas.{CountsFirst}
use Rattle.wy_graph.proofs.cycles.ancestors.labels_by_ancestors.Given as goal

abbrev pub invariant-loop-node : goal.invariant-loop-node
invariant-loop-node l = CountsFirst l.arrows l.count l.node l.labels
