use Rattle.std.proofs.Common.{◌≡◌, ◌-◌, length, drop, Some}
use Rattle.wy_facts.specs.Program.{ran}
use Rattle.wy_facts.specs.Seen.{terms_at, AreBelow, Stays}
use Rattle.wy_facts.proofs.building.made_of.Given as goal

abbrev pub invariant-loop-k : goal.invariant-loop-k
invariant-loop-k l = record {
  so_far : ran (terms_at l.initial.terms l.parts) (drop (length l.program - l.k) l.program) ≡ Some (terms_at l.terms l.made.items);
  below : AreBelow (length l.terms) l.made.items;
  stays : Stays l.initial.terms l.terms;
}
