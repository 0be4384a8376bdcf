use Rattle.std.proofs.Common.{◌≡◌, ◌-◌, length}
use Rattle.wy_batch.specs.Bench.{IsBench}
use Rattle.wy_batch.specs.Judged.{conditions_in, AreVerdictsAt}
use Rattle.wy_batch.specs.Working.{numbers_of, seat_drawing}
use Rattle.wy_cert.specs.Steps.{certificates_of}
use Rattle.wy_batch.proofs.working.work.Given as goal

-- the seat drew the numbers of the verdicts so far, and no more
abbrev pub invariant-loop-number : goal.invariant-loop-number
invariant-loop-number g l = record {
  seat : l.seat ≡ seat_drawing l.fn.seat (numbers_of l.verdicts.items);
  verdicts : AreVerdictsAt (certificates_of l.certs) l.budget (conditions_in l.conds) l.verdicts.items;
  bench : IsBench l.conds.terms l.bench;
}

abbrev pub decreases-loop-number : goal.decreases-loop-number
decreases-loop-number g l = l.claims.pieces - length l.seat.drawn
