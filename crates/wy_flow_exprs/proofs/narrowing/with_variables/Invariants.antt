use Rattle.std.proofs.Common.{◌≡◌, drop}
use Rattle.wy_flow_spec.specs.environment.Seen.{seen_changes}
use Rattle.wy_flow_spec.specs.typing.Narrowing as rule
use Rattle.wy_flow_exprs.proofs.narrowing.with_variables.Given as goal

abbrev pub invariant-loop-change : goal.invariant-loop-change
invariant-loop-change l = rule.with_variables l.all (seen_changes (drop l.change-index l.changes)) ≡ rule.with_variables l.fn.variables (seen_changes l.changes)
