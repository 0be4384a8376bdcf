use Rattle.std.proofs.Common.{length, subst, sym}
use Rattle.wy_check_spec.specs.wy_term.Nodes.{tree_at}
use Rattle.wy_check_nodes.specs.Seen.{AreOver, AreBare}
use Rattle.wy_check_nodes.proofs.BranchLemmas.{over_take, bare_take}
use Rattle.wy_check_nodes.proofs.branch.back_to.Goals as goal

pub returns-clause-branch : goal.returns-clause-branch
returns-clause-branch c = λ nodes is. record {
  literals = subst (AreOver (length nodes)) (sym c.truncate.ensures.keys) (over_take (length nodes) c.args.literals c.args.branch.now.literals.keys is.literals);
  pending = subst (AreOver (length nodes)) (sym c.truncate-2.ensures.keys) (over_take (length nodes) c.args.pending c.args.branch.now.pending.keys is.pending);
  bare = subst (AreBare (tree_at nodes)) (sym c.truncate-2.ensures.keys) (bare_take (tree_at nodes) c.args.pending c.args.branch.now.pending.keys is.bare);
}
