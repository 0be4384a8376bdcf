use Rattle.std.proofs.Common.{sym, ◌∙◌}
use Rattle.wy_parse.proofs.OpenBlocks.{statement_moves}
use Rattle.wy_parse.proofs.blocks.piece.Goals as goal

pub returns-then-halts : goal.returns-then-halts
returns-then-halts g c = c.end.ensures c.args.levels

pub returns : goal.returns
returns g c =
    statement_moves c.args.levels c.args.progress c.args.tokens.now (sym c.halts.ensures ∙ c.if-halts.false) c.in_ok-with.field-0 c.in_ok-stmt.stmt c.in_ok-stmt.rest.now
    (sym c.next_is.ensures ∙ c.if-next_is.false) c.in_ok-stmt.ensures c.in_ok-with.ensures
