use Rattle.std.proofs.Common.{ℕ, take}
use Rattle.wy_canon.specs.Numbered.{IsNoted, AreNoted}
use Rattle.wy_canon.proofs.numbered.note_all.Given as goal

abbrev pub invariant-loop-number : goal.invariant-loop-number
invariant-loop-number l = record {
  keeps : (d : ℕ) → IsNoted l.fn.places.entries d → IsNoted l.places.entries d;
  noted : AreNoted l.places.entries (take l.number l.conjuncts);
}
