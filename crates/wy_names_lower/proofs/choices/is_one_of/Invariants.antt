use Rattle.std.proofs.Common.{◌≡◌, drop}
use Rattle.wy_core.specs.CoreSeen.{seen_expr, seen_exprs}
use Rattle.wy_names_lower.specs.StmtsLowered.{or_labels, is_one_of}
use Rattle.wy_names_lower.proofs.choices.is_one_of.Given as goal

abbrev pub invariant-loop-label : goal.invariant-loop-label
invariant-loop-label l = or_labels l.at l.variable l.is_first (seen_expr l.made) (seen_exprs (drop l.label-index l.labels)) ≡ is_one_of l.at l.variable (seen_exprs l.labels)
