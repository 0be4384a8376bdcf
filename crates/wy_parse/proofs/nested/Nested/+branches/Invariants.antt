use Rattle.std.proofs.Common.{◌+◌, ◌*◌}
use Rattle.wy_parse.proofs.nested.Nested.+branches.Given as goal

abbrev pub decreases-if_stmt : goal.decreases-if_stmt
decreases-if_stmt g l = 3 * l.levels

abbrev pub decreases-if_rest : goal.decreases-if_rest
decreases-if_rest g l = 3 * l.levels + 2

abbrev pub decreases-otherwise : goal.decreases-otherwise
decreases-otherwise g l = 3 * l.levels + 1
