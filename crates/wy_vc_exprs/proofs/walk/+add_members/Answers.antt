use Rattle.std.proofs.Common.{get_or}
use Rattle.wy_vc_exprs.proofs.MemberLemmas.{grown_turn}
use Rattle.wy_vc_exprs.proofs.OweLemmas.{number_item}
use Rattle.wy_vc_exprs.proofs.walk.+add_members.Goals as goal

pub loop-member-preserved : goal.loop-member-preserved
loop-member-preserved t c =
    let items = c.as_slice-member-items.result.now in
    let i = c.loop-member.member-index in
    grown_turn c.args.terms.now c.args.hyps.now.items c.loop-member.hyps.items c.add_members.new.hyps.items items i (get_or items i 0) c.loop-member-test.true
    (number_item items i c.loop-member-test.true) c.loop-member.invariant c.in_ok-add_members-in-And.ensures.value
