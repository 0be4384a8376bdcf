use Rattle.std.proofs.Common.{◌<◌, ◌+◌, ◌*◌, All, length, nat_eq}
use Rattle.std.specs.HashMap.{get}
use Rattle.wy_term.specs.Term.{leaf, int_name}
use Rattle.wy_term.specs.Nodes.{tree_at}
use Rattle.wy_term.specs.Folding.{replaced}
use Rattle.wy_term.specs.Numbers.{Keeps}
use Rattle.wy_term.specs.ReplacingView.{AreMade, seen_pairs}
use Rattle.wy_term.proofs.ReplacingLemmas.{SoFar}
use Rattle.wy_term.proofs.replace.+replacing.Given as goal

abbrev pub decreases-replaced : goal.decreases-replaced
decreases-replaced l = 8 * l.depth

abbrev pub decreases-step : goal.decreases-step
decreases-step l = 8 * l.depth + 7

abbrev pub decreases-quantified : goal.decreases-quantified
decreases-quantified l = 8 * l.depth + 6

abbrev pub decreases-with_bounds : goal.decreases-with_bounds
decreases-with_bounds l = 8 * l.depth + 5

abbrev pub decreases-with_body : goal.decreases-with_body
decreases-with_body l = 8 * l.depth + 4

abbrev pub decreases-body_under : goal.decreases-body_under
decreases-body_under l = 8 * l.depth + 3

abbrev pub decreases-instances : goal.decreases-instances
decreases-instances l = 8 * l.depth + 4

abbrev pub decreases-instance : goal.decreases-instance
decreases-instance l = 8 * l.depth + 3

-- what was made already is right, and what is to be made is there
abbrev pub invariant-replaced-loop-turn : goal.invariant-replaced-loop-turn
invariant-replaced-loop-turn l = record {
  made : AreMade l.terms l.pairs (get nat_eq l.made);
  todo : All (λ k. k < length l.terms) l.todo.items;
  keeps : Keeps l.initial.terms l.terms;
}

-- the instances so far, and behind them those to come, are all instances
abbrev pub invariant-instances-loop-k : goal.invariant-instances-loop-k
invariant-instances-loop-k l = record {
  so_far : SoFar l.terms l.members.items (replaced (tree_at l.initial.terms l.q.body)) (leaf (int_name l.q.word l.q.number)) (seen_pairs (tree_at l.initial.terms) l.pairs) l.range.0 l.k l.range.1;
  below : All (λ k. k < length l.terms) l.members.items;
  keeps : Keeps l.initial.terms l.terms;
}
