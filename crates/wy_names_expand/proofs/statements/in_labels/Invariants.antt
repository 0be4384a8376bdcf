use Rattle.std.proofs.Common.{◌≡◌, drop, length, true}
use Rattle.wy_ast.specs.SurfaceSeen.{seen_exprs}
use Rattle.wy_names_expand.specs.Sizes.{known}
use Rattle.wy_names_expand.specs.Wholes.{in_labels}
use Rattle.wy_names_expand.proofs.statements.in_labels.Given as goal

abbrev pub invariant-loop-label : goal.invariant-loop-label
invariant-loop-label l = record {
  left : l.left ≡ length (seen_exprs (drop l.label-index l.labels));
  value : in_labels (known l.scope l.params l.expansions) l.is_first (seen_exprs (drop l.label-index l.labels)) l.measure ≡ in_labels (known l.scope l.params l.expansions) true (seen_exprs l.labels) l.fn.measure;
}
