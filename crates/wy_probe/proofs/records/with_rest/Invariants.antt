use Rattle.std.proofs.Common.{◌≡◌, ◌++◌, drop}
use Rattle.wy_probe.proofs.records.with_rest.Given as goal

abbrev pub invariant-loop-part : goal.invariant-loop-part
invariant-loop-part l = l.row ++ drop l.part-index l.rest ≡ l.initial.row ++ l.rest
