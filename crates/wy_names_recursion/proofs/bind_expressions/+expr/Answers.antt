use Rattle.std.proofs.Common.{◌≡◌, ◌∙◌, ap, sym, subst, IfOk}
use Rattle.wy_ast.specs.SurfaceTree.{Expr}
use Rattle.wy_ast.specs.declared.expressions.ExprKind as kind
use Rattle.wy_names_recursion.specs.ExprNames as names
use Rattle.wy_names_recursion.proofs.BindSeenLemmas.{seen_record, quant_value}
use Rattle.wy_names_recursion.proofs.bind_expressions.+expr.Goals as goal

pub in_expr-returns-in-Record-clause-value : goal.in_expr-returns-in-Record-clause-value
in_expr-returns-in-Record-clause-value t c =
    subst (λ (x : Expr). IfOk c.in_fields.result (λ f. f ≡ names.in_expr c.args.context c.args.scope.now x c.args.found))
    (sym (seen_record c.args.expr.now c.as_slice-in-Record.result.now (c.in-Record.is ∙ ap kind.Record (sym c.as_slice-in-Record.ensures)))) c.in_fields.ensures.value

pub in_expr-returns-in_ok-found-in-Quant-2-clause-value : goal.in_expr-returns-in_ok-found-in-Quant-2-clause-value
in_expr-returns-in_ok-found-in-Quant-2-clause-value t c =
    quant_value c.args.context c.args.scope.now c.args.expr.now c.args.found c.in-Quant.field-0 c.in-Quant.ranges c.as_slice-ranges.result.now c.in-Quant.body c.get-in-Quant.result.now
    c.in-Quant.is c.as_slice-ranges.ensures c.get-in-Quant.ensures c.contract-inside.result c.contract-inside.ensures.value c.in_ranges.new.scope c.in_ok-found-in-Quant.ensures.scope
    c.in_ok-found-in-Quant.found c.in_ok-found-in-Quant.ensures.value c.in_ok-found-in-Quant-2.found c.in_ok-found-in-Quant-2.ensures.value
