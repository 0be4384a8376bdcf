use Rattle.std.proofs.Common.{◌+◌, ◌*◌}
use Rattle.wy_canon.proofs.normal_forms.+dnf.Given as goal

abbrev pub decreases-dnf : goal.decreases-dnf
decreases-dnf l = 2 * l.depth

abbrev pub decreases-node_dnf : goal.decreases-node_dnf
decreases-node_dnf l = 2 * l.depth + 1
