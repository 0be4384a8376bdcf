use Rattle.std.proofs.Common.{◌≡◌, drop}
use Rattle.wy_core.specs.CoreSeen.{seen_expr, seen_exprs}
use Rattle.wy_core_build.specs.Instances.{joined, joined_behind}
use Rattle.wy_core_build.proofs.instances.joined.Given as goal

abbrev pub invariant-loop-clause : goal.invariant-loop-clause
invariant-loop-clause l = joined_behind l.at (seen_exprs l.args) l.base l.is_first (seen_expr l.made) (seen_exprs (drop l.clause-index l.clauses)) ≡ joined l.at (seen_exprs l.args) l.base (seen_exprs l.clauses)
