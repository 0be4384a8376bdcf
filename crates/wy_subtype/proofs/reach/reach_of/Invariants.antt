use Rattle.std.proofs.Common.{◌≡◌, ◌≤◌, length, Some}
use Rattle.std.specs.Prelude.{slice_get}
use Rattle.wy_subtype.specs.Known.{IsKnown}
use Rattle.wy_subtype.proofs.reach.reach_of.Given as goal

abbrev pub invariant-loop-j : goal.invariant-loop-j
invariant-loop-j l = record { known : IsKnown l.table l.depth l.first l.reach; count : length l.reach.asks ≡ l.j; many : l.j ≤ length l.reach.conjuncts; begins : slice_get l.reach.parts l.number ≡ Some l.first }
