use Rattle.std.proofs.Common.{◌≡◌, All, None, length}
use Rattle.wy_batch.proofs.ordering.no_verdicts.Given as goal

abbrev pub invariant-loop : goal.invariant-loop
invariant-loop l = record {
  count : length l.slots.items ≡ l.counter;
  none : All (λ slot. slot ≡ None) l.slots.items;
}
