use Rattle.wy_cong.proofs.UnmetLemmas.{open_here}
use Rattle.wy_cong.proofs.unmet.open_among.Goals as goal
use Rattle.wy_check_splits.specs.wy_check_nodes.Seen.{seen_branch}
use Rattle.wy_term.specs.Nodes.{tree_at}

pub returns-then-is_another-clause-open : goal.returns-then-is_another-clause-open
returns-then-is_another-clause-open c =
    let at = tree_at c.args.terms.now in
    open_here at (seen_branch at c.args.branch.now).literals c.args.members.now c.loop-i.i c.member_at.result (at c.in-Some.c) c.member_at.ensures c.in-Some.ensures.open
