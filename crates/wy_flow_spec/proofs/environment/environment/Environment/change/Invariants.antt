use Rattle.wy_flow_spec.specs.environment.Seen.{seen_changes, seen_environment}
use Rattle.std.proofs.Common.{◌≡◌, drop}
use Rattle.wy_flow_spec.specs.environment.Variables as spec
use Rattle.wy_flow_spec.proofs.environment.environment.Environment.change.Given as goal

abbrev pub invariant-loop-change : goal.invariant-loop-change
invariant-loop-change l = spec.changed (seen_environment l.self) (seen_changes (drop l.change-index l.changes)) ≡ spec.changed (seen_environment l.fn.self) (seen_changes l.changes)
