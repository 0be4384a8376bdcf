use Rattle.std.proofs.Common.{◌≡◌}
use Rattle.std.specs.String.{string_bytes}
use Rattle.wy_top_big.specs.Draws.{state_after}
use Rattle.wy_top_big.specs.Source.{functions}
use Rattle.wy_top_big.proofs.source.functions.Given as goal

-- so many functions are written, and so many numbers are drawn
abbrev pub invariant-loop-number : goal.invariant-loop-number
invariant-loop-number l = record { written : string_bytes l.text ≡ functions l.number l.seed; drawn : l.state ≡ state_after l.number l.seed }
