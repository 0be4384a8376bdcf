use Rattle.std.proofs.Common.{◌≡◌, ℕ, List, All, length}
use Rattle.wy_batch.proofs.OrderLemmas.{IsBelow, IsLeft}
use Rattle.wy_batch.specs.Judged.{AreVerdictsAt}
use Rattle.wy_cert.specs.Steps.{Certificates}
use Rattle.wy_term.specs.Condition.{Condition}
use Rattle.wy_batch.specs.Ordering.{ArePlaced}
use Rattle.wy_batch.proofs.ordering.placed.Given as goal

-- each number that is left is below the count, a place without a verdict is among them, and each verdict stands at its place
abbrev pub invariant-loop-place : goal.invariant-loop-place
invariant-loop-place l = record {
  count : length l.slots.items ≡ l.count;
  below : All (IsBelow l.count) l.place-iterator.rest.items;
  left : IsLeft l.fn.verdicts.items l.slots.items l.place-iterator.rest.items;
  rest : (certs : Certificates) (budget : ℕ) (cs : List Condition) → AreVerdictsAt certs budget cs l.fn.verdicts.items → AreVerdictsAt certs budget cs l.place-iterator.rest.items;
  placed : (certs : Certificates) (budget : ℕ) (cs : List Condition) → AreVerdictsAt certs budget cs l.fn.verdicts.items → ArePlaced certs budget cs l.slots.items;
}
