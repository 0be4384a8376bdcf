use Rattle.std.proofs.Common.{◌≡◌, ◌++◌, drop}
use Rattle.wy_flow_spec.specs.environment.Seen.{seen_changes}
use Rattle.wy_flow_exprs.proofs.narrowing.with_changes.Given as goal

abbrev pub invariant-loop-change : goal.invariant-loop-change
invariant-loop-change l = seen_changes l.all ++ seen_changes (drop l.change-index l.others) ≡ seen_changes l.fn.made ++ seen_changes l.others
