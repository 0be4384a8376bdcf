use Rattle.std.proofs.Common.{◌≡◌, ◌∙◌, ℕ, ap, sym, subst, IfOk}
use Rattle.wy_core.specs.CoreTree as tree
use Rattle.wy_core.specs.declared.expressions.ExprKind as kind
use Rattle.wy_assign.specs.Faults as spec
use Rattle.wy_assign.proofs.SeenLemmas.{seen_record}
use Rattle.wy_assign.proofs.uses.+expr.Goals as goal

pub in_expr-returns-in-Record-clause-value : goal.in_expr-returns-in-Record-clause-value
in_expr-returns-in-Record-clause-value t c =
    subst (λ (x : tree.Expr ℕ). IfOk c.in_fields.result (λ f. f ≡ spec.expr_faults c.args.marks.now c.args.bound.now.items x c.args.found))
    (sym (seen_record c.args.expr.now c.as_slice-in-Record.result.now (c.in-Record.is ∙ ap kind.Record (sym c.as_slice-in-Record.ensures)))) c.in_fields.ensures.value
