use Rattle.wy_check_nodes.specs.wy_term.Nodes.{tree_at}
use Rattle.wy_check_splits.specs.Groups.{of_group, kinded, in_kinds}
use Rattle.wy_check_splits.proofs.CommonLemmas.{met_now, if_met_later}
use Rattle.wy_check_splits.proofs.meeting.groups_meet.Goals as goal

pub returns-then-branch : goal.returns-then-branch
returns-then-branch c =
    let at = tree_at c.args.terms.now in
    met_now (in_kinds c.args.same) (of_group at c.args.gs.now.first) (of_group at c.args.gs.now.second) (kinded at c.args.hs.now) c.in_ok-meets_groups.field-0 c.in_ok-meets_groups.ensures c.if-branch.true

pub returns : goal.returns
returns c =
    let at = tree_at c.args.terms.now in
    if_met_later (in_kinds c.args.same) (of_group at c.args.gs.now.first) (of_group at c.args.gs.now.second) (kinded at c.args.hs.now) c.in_ok-meets_groups.field-0 c.meets_groups-2.result c.in_ok-meets_groups.ensures c.if-branch.false c.meets_groups-2.ensures
