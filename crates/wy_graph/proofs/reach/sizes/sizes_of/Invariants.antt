use Rattle.wy_graph.proofs.reach_lemmas.SizeLemmas.{SizesSoFar}
use Rattle.wy_graph.proofs.reach.sizes.sizes_of.Given as goal

-- what stands before this place of the order has its size
abbrev pub invariant-loop-number : goal.invariant-loop-number
invariant-loop-number l = SizesSoFar l.entries l.order l.number-index l.sizes
