use Rattle.std.proofs.Common.{◌≡◌}
use Rattle.wy_cong.specs.Heads.{own_labels}
use Rattle.wy_cong.proofs.labels.first_labels.Given as goal

abbrev pub invariant-loop-number : goal.invariant-loop-number
invariant-loop-number l = l.made.items ≡ own_labels 0 l.number
