use Rattle.wy_vc.proofs.StandingLemmas.{joined_begin, joined_end, joined_turn}
use Rattle.wy_vc.proofs.standing.put_all_new.Goals as goal

pub loop-number-init : goal.loop-number-init
loop-number-init c = joined_begin c.args.types.now.items

pub loop-number-preserved : goal.loop-number-preserved
loop-number-preserved c =
    joined_turn c.args.types.now.items c.loop-number.types.items c.put_new.new.types.items c.args.more.now c.loop-number.number-index c.loop-number-test.true c.loop-number.invariant c.in_ok-put_new.ensures.value

pub returns : goal.returns
returns c = record { value = joined_end c.args.types.now.items c.loop-number.types.items c.args.more.now c.loop-number.number-index c.loop-number-test.false c.loop-number.invariant }
