use Rattle.std.proofs.Common.{◌≡◌, ℕ, List, ◌++◌, map, drop}
use Rattle.wy_canon.specs.wy_types.Asks as asks
use Rattle.wy_canon.specs.wy_types.declared.conjuncts.Part.{Part}
use Rattle.wy_subtype.proofs.asks.spread_field.Given as goal

abbrev pub invariant-loop-signed : goal.invariant-loop-signed
invariant-loop-signed l = (l.ways ++ map (λ (w : List (List ℕ × Part ℕ)). l.before ++ w) (asks.spread_field l.table l.depth l.field l.behind (drop l.signed-index l.part))) ≡ map (λ (w : List (List ℕ × Part ℕ)). l.before ++ w) (asks.spread_field l.table l.depth l.field l.behind l.part)
