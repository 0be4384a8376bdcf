use Rattle.std.proofs.Common.{◌≡◌, drop}
use Rattle.wy_flow_spec.specs.typing.Narrowing as rule
use Rattle.wy_flow_exprs.proofs.narrowing.is_among.Given as goal

abbrev pub invariant-loop-other : goal.invariant-loop-other
invariant-loop-other l = rule.is_among (drop l.other-index l.variables) l.variable ≡ rule.is_among l.variables l.variable
