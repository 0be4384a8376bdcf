use Rattle.std.proofs.Common.{◌≡◌, length, map}
use Rattle.wy_core.specs.CoreSeen.{seen_expr}
use Rattle.wy_names_lower.specs.ExprsLowered.{quantified}
use Rattle.wy_names_lower.specs.SeenPairs.{seen_head}
use Rattle.wy_names_lower.proofs.quantifiers.quantified.Given as goal

abbrev pub invariant-loop-head : goal.invariant-loop-head
invariant-loop-head l = quantified l.at l.all (map seen_head l.heads) (seen_expr l.made) ≡ quantified l.at l.all (map seen_head l.fn.heads) (seen_expr l.fn.body)

abbrev pub decreases-loop-head : goal.decreases-loop-head
decreases-loop-head l = length l.heads
