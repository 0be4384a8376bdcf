use Rattle.std.proofs.Common.{◌≡◌, length, take}
use Rattle.wy_facts.specs.Seen.{terms_at, AreBelow, Stays}
use Rattle.wy_check.proofs.bringing.all_brought.Given as goal

-- the terms so far
abbrev pub invariant-loop-t : goal.invariant-loop-t
invariant-loop-t l = record {
  so_far : terms_at l.terms l.numbers.items ≡ terms_at l.from (take l.t-index l.all);
  below : AreBelow (length l.terms) l.numbers.items;
  stays : Stays l.fn.terms l.terms;
}
