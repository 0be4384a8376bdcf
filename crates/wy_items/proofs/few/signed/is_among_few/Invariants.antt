use Rattle.std.proofs.Common.{◌≡◌, drop}
use Rattle.wy_items.specs.few.Signed.{is_among}
use Rattle.wy_items.proofs.few.signed.is_among_few.Given as goal

-- it is among all where it is among those that are left
abbrev pub invariant-loop-key : goal.invariant-loop-key
invariant-loop-key l = is_among (drop l.key-index l.keys) (l.k, l.holds) ≡ is_among l.keys (l.k, l.holds)
