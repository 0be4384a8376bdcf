use Rattle.std.proofs.Common.{sym, ap, ◌∙◌}
use Rattle.wy_parse.specs.OpenBlocks.{with_stmt}
use Rattle.wy_parse.specs.StmtTrees.{S}
use Rattle.wy_parse.proofs.OpenBlocks.{cases_move, default_moves}
use Rattle.wy_parse.proofs.blocks.switch.Goals as goal

pub returns-then-next_is : goal.returns-then-next_is
returns-then-next_is g c =
    default_moves c.args.levels c.args.progress c.args.tokens.now c.requires.goes_on c.requires.begins c.in_ok-at.at c.in_ok-at.value c.in_ok-at.rest.now c.in_ok-at.ensures
    c.requires.room (sym c.next_is.ensures ∙ c.if-next_is.true) c.in_ok-opened.field-0 c.in_ok-rest.field-0-0 c.in_ok-rest.rest.now c.in_ok-rest.ensures c.in_ok-opened.ensures

pub returns : goal.returns
returns g c =
    cases_move c.args.levels c.args.progress c.args.tokens.now c.requires.goes_on c.requires.begins c.in_ok-at.at c.in_ok-at.value c.in_ok-at.rest.now c.in_ok-at.ensures
    c.in_ok-with.field-0 c.in_ok-cases.cases c.in_ok-cases.rest.now (sym c.next_is.ensures ∙ c.if-next_is.false) c.in_ok-cases.ensures
    (c.in_ok-with.ensures ∙ ap (λ (st : S). with_stmt c.args.progress st) c.switch_node.ensures)
