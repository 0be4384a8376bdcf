use Rattle.std.proofs.Common.{◌≡◌, OnOk, subst}
use Rattle.wy_names_recursion.specs.Uses.{Edges}
use Rattle.wy_names_recursion.proofs.SeenLemmas.{record_uses, quant_uses}
use Rattle.wy_names_recursion.proofs.expressions.+expr.Goals as goal

pub in_expr-returns-in-Record : goal.in_expr-returns-in-Record
in_expr-returns-in-Record t c =
    let is = record_uses c.args.scope.now c.args.from c.args.expr.now c.args.edges.now c.in-Record.fields c.as_slice-in-Record.result.now c.in-Record.is c.as_slice-in-Record.ensures in
    record { value = subst (λ (z : Edges). OnOk c.in_values.result (c.in_values.new.edges ≡ z)) is c.in_values.ensures.value }

pub in_expr-returns-in_ok-in_ranges-in-Quant : goal.in_expr-returns-in_ok-in_ranges-in-Quant
in_expr-returns-in_ok-in_ranges-in-Quant t c =
    let is = quant_uses c.args.scope.now c.args.from c.args.expr.now c.args.edges.now c.in_ranges.new.edges c.in-Quant.field-0 c.in-Quant.ranges c.as_slice-in-Quant.result.now c.in-Quant.body c.get-in-Quant.result.now
    c.in-Quant.is c.as_slice-in-Quant.ensures c.get-in-Quant.ensures c.in_ok-in_ranges-in-Quant.ensures.value in
    record { value = subst (λ (z : Edges). OnOk c.in_expr-in-Quant.result (c.in_expr-in-Quant.new.edges ≡ z)) is c.in_expr-in-Quant.ensures.value }
