use Rattle.std.proofs.Common.{◌≡◌, ℕ, List, ◌++◌, map, take, drop}
use Rattle.wy_canon.specs.wy_types.Asks as asks
use Rattle.wy_canon.specs.wy_types.declared.conjuncts.Part.{Part}
use Rattle.wy_subtype.proofs.asks.spread.Given as goal

abbrev pub invariant-loop-place : goal.invariant-loop-place
invariant-loop-place l = (l.ways ++ map (λ (w : List (List ℕ × Part ℕ)). take l.place l.fields ++ w) (asks.spread l.table l.depth (drop l.place l.fields) (drop l.place l.others))) ≡ asks.spread l.table l.depth l.fields l.others
