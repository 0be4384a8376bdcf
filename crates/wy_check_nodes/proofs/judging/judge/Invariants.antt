use Rattle.std.proofs.Common.{length}
use Rattle.wy_check_spec.specs.wy_term.Nodes.{tree_at}
use Rattle.wy_check_nodes.specs.Seen.{seen_branch, AreBelow}
use Rattle.wy_check_nodes.specs.Judged.{Knows}
use Rattle.wy_check_nodes.proofs.judging.judge.Given as goal

abbrev pub invariant-loop-turn : goal.invariant-loop-turn
invariant-loop-turn l = record {
  known : Knows (tree_at l.terms) (seen_branch (tree_at l.terms) l.branch).literals l.known;
  todo : AreBelow (length l.terms) l.todo.items;
}
