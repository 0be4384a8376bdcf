use Rattle.std.proofs.Common.{◌≡◌, drop}
use Rattle.wy_core.specs.CoreSeen.{seen_block}
use Rattle.wy_flow_spec.specs.typing.Assigned as spec
use Rattle.wy_flow.proofs.assigned.+assigned.Given as goal

abbrev pub invariant-assigned_in-loop-stmt : goal.invariant-assigned_in-loop-stmt
invariant-assigned_in-loop-stmt l = spec.assigned_in (seen_block (drop l.stmt-index l.block)) l.all ≡ spec.assigned_in (seen_block l.block) l.fn.variables
