use Rattle.std.proofs.Common.{◌≡◌, drop}
use Rattle.wy_core.specs.CoreSeen.{seen_block}
use Rattle.wy_assign.specs.Faults.{walked_all}
use Rattle.wy_assign.proofs.statements.+walk.Given as goal

-- what is left leads on from what is found
abbrev pub invariant-walk_block-loop-stmt : goal.invariant-walk_block-loop-stmt
invariant-walk_block-loop-stmt l = walked_all (seen_block (drop l.stmt-index l.block)) l.walk ≡ walked_all (seen_block l.block) l.fn.walk
