use Rattle.std.proofs.Common.{◌≡◌}
use Rattle.wy_lin_eliminate.specs.Elimination as elimination
use Rattle.wy_lin_eliminate.specs.Seen.{seen_table}
use Rattle.wy_lin_eliminate.proofs.elimination.eliminated.Given as goal

abbrev pub invariant-loop-left : goal.invariant-loop-left
invariant-loop-left l = elimination.eliminated l.left (seen_table l.table) ≡ elimination.eliminated l.count (seen_table l.fn.table)

abbrev pub decreases-loop-left : goal.decreases-loop-left
decreases-loop-left l = l.left
