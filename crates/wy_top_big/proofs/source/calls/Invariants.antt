use Rattle.std.proofs.Common.{◌≡◌}
use Rattle.std.specs.String.{string_bytes}
use Rattle.wy_top_big.specs.Source.{calls}
use Rattle.wy_top_big.proofs.source.calls.Given as goal

-- so many lines are written
abbrev pub invariant-loop-number : goal.invariant-loop-number
invariant-loop-number l = string_bytes l.text ≡ calls l.number
