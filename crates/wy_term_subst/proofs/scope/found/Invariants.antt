use Rattle.std.proofs.Common.{◌≡◌, drop}
use Rattle.wy_term.specs.Nodes.{tree_at}
use Rattle.wy_term.specs.Folding.{found}
use Rattle.wy_term.specs.ReplacingView.{seen_pairs}
use Rattle.wy_term_subst.proofs.scope.found.Given as goal

abbrev pub invariant-loop-pair : goal.invariant-loop-pair
invariant-loop-pair l = found (seen_pairs (tree_at l.terms) (drop l.pair-index l.pairs)) (tree_at l.terms l.name) ≡ found (seen_pairs (tree_at l.terms) l.pairs) (tree_at l.terms l.name)
