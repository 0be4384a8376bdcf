use Rattle.std.proofs.Common.{◌≡◌, drop}
use Rattle.wy_canon.specs.wy_types.Asks as asks
use Rattle.wy_subtype.proofs.asks.names_only.Given as goal

abbrev pub invariant-loop-atom : goal.invariant-loop-atom
invariant-loop-atom l = asks.names_only (drop l.atom-index l.negatives) ≡ asks.names_only l.negatives
