use Rattle.std.proofs.Common.{◌≡◌, drop}
use Rattle.wy_lin_eliminate.specs.Elimination as elimination
use Rattle.wy_lin_eliminate.specs.Seen.{seen_table}
use Rattle.wy_lin_eliminate.proofs.turns.over_lowers.Given as goal

abbrev pub invariant-loop-l : goal.invariant-loop-l
invariant-loop-l l = elimination.over_lowers l.v l.uppers (seen_table l.table) (drop l.l-index l.lowers) ≡ elimination.over_lowers l.v l.uppers (seen_table l.fn.table) l.lowers
