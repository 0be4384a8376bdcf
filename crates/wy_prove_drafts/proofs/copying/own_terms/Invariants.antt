use Rattle.std.proofs.Common.{◌≡◌, length, take}
use Rattle.wy_facts.specs.Seen.{terms_at, AreBelow, Stays}
use Rattle.wy_prove_drafts.proofs.copying.own_terms.Given as goal

-- the terms so far
abbrev pub invariant-loop-t : goal.invariant-loop-t
invariant-loop-t l = record {
  so_far : terms_at l.own l.numbers.items ≡ terms_at l.terms (take l.t-index l.all);
  below : AreBelow (length l.own) l.numbers.items;
  stays : Stays l.fn.own l.own;
}
