use Rattle.std.proofs.Common.{◌≡◌, ◌∙◌, IfOk, ℕ, subst, ap, sym}
use Rattle.wy_core.specs.CoreTree as tree
use Rattle.wy_core.specs.declared.expressions.ExprKind as kind
use Rattle.wy_code_spec.specs.tables.Tables as spec
use Rattle.wy_code_spec.proofs.tables_lemmas.NameLemmas.{seen_record, values_shape}
use Rattle.wy_code_spec.proofs.tables.tables.+exprs.Goals as goal

pub expr_table-returns-in-Record : goal.expr_table-returns-in-Record
expr_table-returns-in-Record t c = record {
  value = subst (λ (x : tree.Expr ℕ). IfOk c.record_expr_table.result (λ n. n ≡ spec.expr_table x c.args.table))
      (sym (seen_record c.args.expr.now c.as_slice-in-Record.result.now (c.in-Record.is ∙ ap kind.Record (sym c.as_slice-in-Record.ensures)))) c.record_expr_table.ensures.value;
}

pub record_expr_table-returns : goal.record_expr_table-returns
record_expr_table-returns t c = record {
  value = subst (λ (x : spec.Table). IfOk c.with_shape_of.result (λ n. n ≡ x)) (values_shape c.args.fields.now c.args.table c.in_ok-table.table c.in_ok-table.ensures.value) c.with_shape_of.ensures.value;
}
