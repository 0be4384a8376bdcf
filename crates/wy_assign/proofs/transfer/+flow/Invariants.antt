use Rattle.std.proofs.Common.{◌≡◌, drop}
use Rattle.wy_core.specs.CoreSeen.{seen_block}
use Rattle.wy_assign.specs.Flows.{flow_all}
use Rattle.wy_assign.proofs.transfer.+flow.Given as goal

-- what is left leads on from what is found
abbrev pub invariant-flow_block-loop-stmt : goal.invariant-flow_block-loop-stmt
invariant-flow_block-loop-stmt l = flow_all (seen_block (drop l.stmt-index l.block)) l.flow ≡ flow_all (seen_block l.block) l.fn.flow
