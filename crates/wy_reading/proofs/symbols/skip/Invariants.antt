use Rattle.std.proofs.Common.{◌≡◌, ◌-◌, length, drop}
use Rattle.wy_reading.specs.Reader.{loop, step, skip}
use Rattle.wy_reading.proofs.symbols.skip.Given as goal

-- what the loop still passes over completes what was passed over
abbrev pub invariant-loop-end : goal.invariant-loop-end
invariant-loop-end g l =
    skip {X = g.row.X.Denot} (g.C.Class.has l.class) l.text
    ≡ loop (g.C.Class.has l.class) (step (g.C.Class.has l.class)) (length l.text - l.end) tt (drop l.end l.text)
