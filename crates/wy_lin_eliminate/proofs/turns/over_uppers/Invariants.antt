use Rattle.std.proofs.Common.{◌≡◌, drop}
use Rattle.wy_lin_eliminate.specs.Elimination as elimination
use Rattle.wy_lin_eliminate.specs.Seen.{seen_table}
use Rattle.wy_lin_eliminate.proofs.turns.over_uppers.Given as goal

abbrev pub invariant-loop-u : goal.invariant-loop-u
invariant-loop-u l = elimination.over_uppers l.v l.l (seen_table l.table) (drop l.u-index l.uppers) ≡ elimination.over_uppers l.v l.l (seen_table l.fn.table) l.uppers
