use Rattle.std.proofs.Common.{◌≡◌, length, map}
use Rattle.wy_core.specs.CoreSeen.{seen_stmt}
use Rattle.wy_names_lower.specs.StmtsLowered.{chain}
use Rattle.wy_names_lower.specs.SeenPairs.{seen_arm}
use Rattle.wy_names_lower.proofs.choices.chain.Given as goal

abbrev pub invariant-loop-arm : goal.invariant-loop-arm
invariant-loop-arm l = chain l.at (map seen_arm l.arms) (map seen_stmt l.made) ≡ chain l.at (map seen_arm l.fn.arms) (map seen_stmt l.fn.last)

abbrev pub decreases-loop-arm : goal.decreases-loop-arm
decreases-loop-arm l = length l.arms
