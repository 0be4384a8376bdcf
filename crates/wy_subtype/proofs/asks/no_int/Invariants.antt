use Rattle.std.proofs.Common.{◌≡◌, drop}
use Rattle.wy_canon.specs.wy_types.Shape.{IntShape, none_in}
use Rattle.wy_subtype.proofs.asks.no_int.Given as goal

abbrev pub invariant-loop-atom : goal.invariant-loop-atom
invariant-loop-atom l = none_in IntShape (drop l.atom-index l.negatives) ≡ none_in IntShape l.negatives
