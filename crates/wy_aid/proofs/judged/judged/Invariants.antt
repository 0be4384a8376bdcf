use Rattle.std.proofs.Common.{◌≡◌, length}
use Rattle.wy_search.specs.Carried.{IsCarried}
use Rattle.wy_aid.proofs.judged.judged.Given as goal

-- the terms are as many as before
abbrev pub invariant-loop-i : goal.invariant-loop-i
invariant-loop-i l = record {
  same : length l.terms ≡ length l.fn.terms;
  carried : IsCarried l.terms l.carried;
}
