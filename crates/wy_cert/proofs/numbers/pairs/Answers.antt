use Rattle.std.proofs.Common.{rules, arith, ◌≡◌, ◌<◌, length}
use Rattle.std.proofs.lemmas.Grind.{common_steps}
use Rattle.wy_cert.specs.Numbers.{IsPairAt, NoPair}
use Rattle.wy_cert.proofs.PairLemmas.{pairs_turn, pairs_end, pairs_none}
use Rattle.wy_cert.proofs.numbers.pairs.Goals as goal

pub returns-then-is_empty : goal.returns-then-is_empty
returns-then-is_empty c =
    let ends : length c.loop-turn.rest.now ≡ 0 = first_of (omega arith, search rules, grind (arith, common_steps)) in
    record { value = pairs_end c.args.text.now c.loop-turn.rest.now c.loop-turn.pairs.items ends c.loop-turn.invariant }

pub returns-in_default : goal.returns-in_default
returns-in_default c =
    let some : 0 < length c.loop-turn.rest.now = first_of (omega arith, search rules, grind (arith, common_steps)) in
    let never : NoPair c.loop-turn.rest.now = search rules in
    record { value = pairs_none c.args.text.now c.loop-turn.rest.now c.loop-turn.pairs.items some never c.loop-turn.invariant }

pub loop-turn-preserved : goal.loop-turn-preserved
loop-turn-preserved c =
    let here : IsPairAt c.loop-turn.rest.now c.in-Some.m c.in-Some.i c.in-Some.more.now = search rules in
    rw c.in_ok-push.ensures.items (pairs_turn c.args.text.now c.loop-turn.rest.now c.in-Some.more.now c.loop-turn.pairs.items c.in-Some.m c.in-Some.i here c.loop-turn.invariant)
