use Rattle.std.proofs.Common.{◌+◌, ◌*◌}
use Rattle.wy_canon.proofs.normal_forms.+sides.Given as goal

abbrev pub decreases-with_sides : goal.decreases-with_sides
decreases-with_sides l = 2 * l.depth

abbrev pub decreases-node_sides : goal.decreases-node_sides
decreases-node_sides l = 2 * l.depth + 1
