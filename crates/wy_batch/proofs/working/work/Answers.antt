use Rattle.std.proofs.Common.{◌≡◌, ◌∙◌, length, ap, rules, arith}
use Rattle.std.proofs.lemmas.List.{length_push}
use Rattle.wy_batch.proofs.WorkLemmas.{drew_nothing, drew_one_more, drew_to_the_end, seat_begins, seat_ends, seat_next, verdicts_begin, verdicts_next}
use Rattle.wy_batch.specs.Judged.{conditions_in}
use Rattle.wy_batch.specs.Working.{numbers_of}
use Rattle.wy_cert.specs.Steps.{certificates_of}
use Rattle.wy_claim.specs.Seats.{SeatView, ended}
use Rattle.wy_batch.proofs.working.work.Goals as goal

pub loop-number-init : goal.loop-number-init
loop-number-init g c = record {
  seat = seat_begins c.args.seat.now c.new-verdicts.result.items c.new-verdicts.ensures.items;
  verdicts = verdicts_begin (certificates_of c.args.certs.now) c.args.budget (conditions_in c.args.conds.now) c.new-verdicts.result.items c.new-verdicts.ensures.items;
  bench = c.bare_bench-bench.ensures c.args.conds.now.terms;
}

pub draw-requires : goal.draw-requires
draw-requires g c = record {
  own = ap (λ (s : SeatView). s.counter) c.loop-number.invariant.seat ∙ c.requires.own;
  not_ended = ap (λ (s : SeatView). s.ended) c.loop-number.invariant.seat ∙ c.requires.not_ended;
}

pub judged-requires : goal.judged-requires
judged-requires g c = record {
  bench = c.loop-number.invariant.bench;
  places = c.in_ok-places.ensures;
  conds = c.requires.conds;
  certs = c.requires.certs;
  place = omega (arith, c.in-Some.ensures.within, c.requires.pieces);
  few = omega (arith, c.requires.few);
}

pub loop-number-preserved : goal.loop-number-preserved
loop-number-preserved g c = record {
  seat = seat_next c.args.seat.now c.loop-number.seat c.draw.new.seat c.loop-number.verdicts.items c.push.new.self.items c.in-Some.number c.in_ok-verdict.verdict c.loop-number.invariant.seat c.in-Some.ensures.drawn c.in_ok-push.ensures.items;
  verdicts = verdicts_next (certificates_of c.args.certs.now) c.args.budget (conditions_in c.args.conds.now) c.loop-number.verdicts.items c.push.new.self.items c.in-Some.number c.in_ok-verdict.verdict c.in_ok-push.ensures.items c.loop-number.invariant.verdicts c.in_ok-verdict.ensures.value;
  bench = c.in_ok-verdict.ensures.bench;
}

pub loop-number-smaller : goal.loop-number-smaller
loop-number-smaller g c =
    let drawn = ap (λ (s : SeatView). length s.drawn) c.in-Some.ensures.drawn ∙ length_push c.loop-number.seat.drawn c.in-Some.number in
    omega (arith, drawn, c.in-Some.ensures.room, c.in-Some.ensures.within)

pub returns-clause-drawn : goal.returns-clause-drawn
returns-clause-drawn g c =
    let none : c.draw.new.seat ≡ ended c.loop-number.seat = search rules in
    seat_ends c.args.seat.now c.loop-number.seat c.draw.new.seat (numbers_of c.loop-number.verdicts.items) c.loop-number.invariant.seat none

pub returns-clause-verdicts : goal.returns-clause-verdicts
returns-clause-verdicts g c = c.loop-number.invariant.verdicts

pub returns-clause-stay : goal.returns-clause-stay
returns-clause-stay g c = drew_to_the_end c.args.seat.now c.draw.new.seat (numbers_of c.loop-number.verdicts.items) (returns-clause-drawn g c)

pub returns-in_err-places-clause-stay : goal.returns-in_err-places-clause-stay
returns-in_err-places-clause-stay g c = drew_nothing c.args.seat.now

pub returns-in_err-verdict-clause-stay : goal.returns-in_err-verdict-clause-stay
returns-in_err-verdict-clause-stay g c = drew_one_more c.args.seat.now c.loop-number.seat c.draw.new.seat (numbers_of c.loop-number.verdicts.items) c.in-Some.number c.loop-number.invariant.seat c.in-Some.ensures.drawn

pub returns-in_err-push-clause-stay : goal.returns-in_err-push-clause-stay
returns-in_err-push-clause-stay g c = drew_one_more c.args.seat.now c.loop-number.seat c.draw.new.seat (numbers_of c.loop-number.verdicts.items) c.in-Some.number c.loop-number.invariant.seat c.in-Some.ensures.drawn
