use Rattle.wy_names_expand.specs.Sizes.{known}
use Rattle.wy_names_expand.proofs.SeenLemmas.{record_size, quant_size}
use Rattle.wy_names_expand.proofs.expressions.+expr.Goals as goal

pub in_expr-returns-in-Record : goal.in_expr-returns-in-Record
in_expr-returns-in-Record t c =
    let k = known c.args.scope.now c.args.params.now c.args.expansions.now in
    let size = record_size k c.args.spot c.args.expr.now c.args.measure c.in-Record.fields c.as_slice-in-Record.result.now c.in-Record.is c.as_slice-in-Record.ensures in
    record { value = cc size }

pub in_expr-returns-in-Quant : goal.in_expr-returns-in-Quant
in_expr-returns-in-Quant t c =
    let k = known c.args.scope.now c.args.params.now c.args.expansions.now in
    let size = quant_size k c.args.spot c.args.expr.now c.args.measure c.in-Quant.field-0 c.in-Quant.ranges c.as_slice-ranges.result.now c.in-Quant.body c.get-in-Quant.result.now c.in-Quant.is
    c.as_slice-ranges.ensures c.get-in-Quant.ensures in
    record { value = cc size }
