use Rattle.std.proofs.Common.{◌≡◌, ◌∷◌, [], length}
use Rattle.wy_check_spec.specs.wy_term.Nodes.{tree_at}
use Rattle.wy_check_nodes.specs.Seen.{seen_branch, AreOver, IsBranch, Extends}
use Rattle.wy_check_nodes.specs.Tasks.{after_all}
use Rattle.wy_check_nodes.proofs.adding.add.Given as goal

-- what is left leads to what the first task led to
abbrev pub invariant-loop-turn : goal.invariant-loop-turn
invariant-loop-turn l = record {
  leads : after_all (tree_at l.terms) (seen_branch (tree_at l.terms) l.branch) l.tasks.items ≡ after_all (tree_at l.terms) (seen_branch (tree_at l.terms) l.fn.branch) ((l.f, l.holds) ∷ []);
  branch : IsBranch l.terms l.branch;
  grows : Extends l.fn.branch l.branch;
  tasks : AreOver (length l.terms) l.tasks.items;
}
