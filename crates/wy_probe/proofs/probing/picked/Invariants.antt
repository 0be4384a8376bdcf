use Rattle.std.proofs.Common.{◌≡◌, ◌++◌, drop, map}
use Rattle.wy_value.specs.Seen.{seen}
use Rattle.wy_probe.specs.Tables.{table_of}
use Rattle.wy_probe.specs.Trials.{picked}
use Rattle.wy_probe.proofs.probing.picked.Given as goal

abbrev pub invariant-loop-place : goal.invariant-loop-place
invariant-loop-place l = map seen l.args.items ++ picked (table_of (drop l.place l.lists)) (drop l.place l.tuple) ≡ picked (table_of l.lists) l.tuple
