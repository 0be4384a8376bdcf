use Rattle.wy_vc.proofs.TestedLemmas.{among_at}
use Rattle.wy_vc.proofs.SeenLemmas.{seeing_begin, seeing_end, seeing_turn}
use Rattle.wy_vc.proofs.limits.see_all.Goals as goal

pub loop-number-init : goal.loop-number-init
loop-number-init c = λ under. seeing_begin c.args.terms.now c.args.seen.now c.args.numbers.now

pub loop-number-preserved : goal.loop-number-preserved
loop-number-preserved c = λ under.
    seeing_turn c.args.terms.now c.args.seen.now c.loop-number.seen c.see.new.seen c.args.numbers.now c.loop-number.number-index c.loop-number-test.true (c.loop-number.invariant under)
    (λ ts counted. c.in_ok-see.ensures.counted ts (under _ (among_at c.args.numbers.now c.loop-number.number-index c.loop-number-test.true)) counted)

pub returns : goal.returns
returns c = record { counted = λ under. seeing_end c.args.terms.now c.args.seen.now c.loop-number.seen c.args.numbers.now c.loop-number.number-index c.loop-number-test.false (c.loop-number.invariant under) }
