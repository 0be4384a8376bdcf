use Rattle.std.proofs.Common.{◌≡◌, drop, length, true}
use Rattle.wy_ast.specs.SurfaceSeen.{seen_exprs}
use Rattle.wy_names_expand.specs.Sizes.{known}
use Rattle.wy_names_expand.specs.Summaries.{in_joined}
use Rattle.wy_names_expand.proofs.properties.in_joined.Given as goal

abbrev pub invariant-loop-clause : goal.invariant-loop-clause
invariant-loop-clause l = record {
  left : l.left ≡ length (seen_exprs (drop l.clause-index l.clauses));
  value : in_joined (known l.scope l.params l.expansions) l.is_first (seen_exprs (drop l.clause-index l.clauses)) l.measure ≡ in_joined (known l.scope l.params l.expansions) true (seen_exprs l.clauses) l.fn.measure;
}
