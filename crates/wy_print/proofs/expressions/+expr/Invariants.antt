use Rattle.std.proofs.Common.{◌≡◌, ◌++◌, drop}
use Rattle.wy_print.specs.Pieces.{listed, more_listed}
use Rattle.wy_print.specs.ExprText.{expr_texts, shown_fields, shown_ranges}
use Rattle.wy_print.proofs.expressions.+expr.Given as goal

-- what is left completes what is written
abbrev pub invariant-write_exprs-loop-expr : goal.invariant-write_exprs-loop-expr
invariant-write_exprs-loop-expr l =
    l.text.items ++ more_listed (expr_texts (drop l.expr-index l.rest)) ≡ l.fn.text.items ++ listed (expr_texts l.fn.exprs)

abbrev pub invariant-write_fields-loop-field : goal.invariant-write_fields-loop-field
invariant-write_fields-loop-field l =
    l.text.items ++ more_listed (shown_fields (drop l.field-index l.rest)) ≡ l.fn.text.items ++ listed (shown_fields l.fn.fields)

abbrev pub invariant-write_ranges-loop-range : goal.invariant-write_ranges-loop-range
invariant-write_ranges-loop-range l =
    l.text.items ++ more_listed (shown_ranges (drop l.range-index l.rest)) ≡ l.fn.text.items ++ listed (shown_ranges l.fn.ranges)
