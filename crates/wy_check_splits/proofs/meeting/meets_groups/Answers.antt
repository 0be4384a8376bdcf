use Rattle.wy_check_nodes.specs.wy_term.Nodes.{tree_at}
use Rattle.wy_check_splits.specs.Groups.{of_group, in_kinds}
use Rattle.wy_check_splits.proofs.CommonLemmas.{meets_now, if_meets_later}
use Rattle.wy_check_splits.proofs.meeting.meets_groups.Goals as goal

pub returns-then-branch : goal.returns-then-branch
returns-then-branch c =
    let at = tree_at c.args.terms.now in
    meets_now (in_kinds c.args.same) (of_group at c.args.g.now) (of_group at c.args.hs.now.first) (of_group at c.args.hs.now.second) c.in_ok-group_meets.field-0 c.in_ok-group_meets.ensures c.if-branch.true

pub returns : goal.returns
returns c =
    let at = tree_at c.args.terms.now in
    if_meets_later (in_kinds c.args.same) (of_group at c.args.g.now) (of_group at c.args.hs.now.first) (of_group at c.args.hs.now.second) c.in_ok-group_meets.field-0 c.group_meets-2.result c.in_ok-group_meets.ensures c.if-branch.false c.group_meets-2.ensures
