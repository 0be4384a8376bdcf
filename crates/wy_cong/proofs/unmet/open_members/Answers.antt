use Rattle.std.proofs.Common.{◌≡◌, true, inr, length, rules}
use Rattle.wy_cong.proofs.FirstLemmas.{below_at}
use Rattle.wy_cong.proofs.UnmetLemmas.{part_here}
use Rattle.wy_cong.proofs.unmet.open_members.Goals as goal
use Rattle.wy_check_splits.specs.wy_check_nodes.Seen.{seen_branch}
use Rattle.wy_search_spec.specs.Splitting.{is_open}
use Rattle.wy_term.specs.Nodes.{tree_at}

pub returns-then-one-f-clause-other : goal.returns-then-one-f-clause-other
returns-then-one-f-clause-other c =
    let at = tree_at c.args.terms.now in
    let up : is_open c.in_ok-verdict.verdict ≡ true = search rules in
    inr (part_here at (seen_branch at c.args.branch.now).literals c.args.members.now c.loop-i.i c.member_at-member.result c.in_ok-verdict.verdict c.member_at-member.ensures c.in_ok-verdict.ensures.value up)

pub returns-then-one-f-clause-below : goal.returns-then-one-f-clause-below
returns-then-one-f-clause-below c =
    (c.loop-i.invariant.below, below_at (length c.args.terms.now) c.args.members.now c.loop-i.i c.member_at-member.result c.requires.members c.member_at-member.ensures)

pub loop-i-preserved : goal.loop-i-preserved
loop-i-preserved c =
    let at = tree_at c.args.terms.now in
    let up : is_open c.in_ok-verdict.verdict ≡ true = search rules in
    record {
      known = c.in_ok-verdict.ensures.known;
      one = inr (part_here at (seen_branch at c.args.branch.now).literals c.args.members.now c.loop-i.i c.member_at-member.result c.in_ok-verdict.verdict c.member_at-member.ensures c.in_ok-verdict.ensures.value up);
      below = below_at (length c.args.terms.now) c.args.members.now c.loop-i.i c.member_at-member.result c.requires.members c.member_at-member.ensures;
    }
