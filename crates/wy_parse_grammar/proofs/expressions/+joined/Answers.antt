use Rattle.std.proofs.Common.{◌∙◌, sym, rules}
use Rattle.wy_parse_grammar.proofs.StepLemmas.{stops, left_stops, left_alone, mark_stops, right_stops, both_read}
use Rattle.wy_parse_grammar.proofs.expressions.+joined.Goals as goal

pub returns-in_err-left : goal.returns-in_err-left
returns-in_err-left g t c =
    stops _ c.in_err-left.field-0.0 c.from_residual.result (search rules)
    (λ n. left_stops c.args.levels c.args.tokens.now c.if-levels-eq0.false c.in_err-left.field-0.0 (c.in_err-left.ensures n))

pub returns-then-not-next_is : goal.returns-then-not-next_is
returns-then-not-next_is g t c =
    left_alone c.args.levels c.args.tokens.now c.if-levels-eq0.false c.in_ok-left.left c.in_ok-left.rest.now c.in_ok-left.ensures (sym c.next_is.ensures ∙ c.if-not-next_is.true)

pub returns-in_err-at : goal.returns-in_err-at
returns-in_err-at g t c =
    stops _ c.in_err-at.field-0.0 c.from_residual-in_err-at.result (search rules)
    (λ n. mark_stops c.args.levels c.args.tokens.now c.if-levels-eq0.false c.in_ok-left.left c.in_ok-left.rest.now c.in_ok-left.ensures (sym c.next_is.ensures ∙ c.if-not-next_is.false)
    c.in_err-at.field-0.0 (c.in_err-at.ensures n))

pub returns-in_err-right : goal.returns-in_err-right
returns-in_err-right g t c =
    stops _ c.in_err-right.field-0.0 c.from_residual-in_err-right.result (search rules)
    (λ n. right_stops c.args.levels c.args.tokens.now c.if-levels-eq0.false c.in_ok-left.left c.in_ok-left.rest.now c.in_ok-left.ensures (sym c.next_is.ensures ∙ c.if-not-next_is.false)
    c.in_ok-at.at c.in_ok-at.rest.now c.in_ok-at.ensures c.in_err-right.field-0.0 (c.in_err-right.ensures n))

pub returns : goal.returns
returns g t c =
    rw (c.binary_node.ensures, c.in_ok-left-2.ensures, c.in_ok-right-2.ensures)
    (both_read c.args.levels c.args.tokens.now c.if-levels-eq0.false c.in_ok-left.left c.in_ok-left.rest.now c.in_ok-left.ensures (sym c.next_is.ensures ∙ c.if-not-next_is.false)
    c.in_ok-at.at c.in_ok-at.rest.now c.in_ok-at.ensures c.in_ok-right.right c.in_ok-right.rest.now c.in_ok-right.ensures)
