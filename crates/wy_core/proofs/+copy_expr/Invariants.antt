use Rattle.std.proofs.Common.{◌≡◌, take}
use Rattle.wy_core.proofs.+copy_expr.Given as goal

abbrev pub invariant-copies::expr_copies::copy_exprs-loop-expr : goal.invariant-copies::expr_copies::copy_exprs-loop-expr
invariant-copies::expr_copies::copy_exprs-loop-expr l = l.made ≡ take l.expr-index l.all

abbrev pub invariant-copies::expr_copies::copy_fields-loop-field : goal.invariant-copies::expr_copies::copy_fields-loop-field
invariant-copies::expr_copies::copy_fields-loop-field l = l.made ≡ take l.field-index l.all
