use Rattle.wy_parse.proofs.OpenBlocks.{end_moves}
use Rattle.wy_parse.proofs.blocks.end.Goals as goal

pub returns : goal.returns
returns c = λ levels.
    end_moves levels c.args.progress c.args.tokens.now c.requires.halts c.in_ok-rest.field-0-0 c.in_ok-rest.rest.now c.in_ok-rest.ensures c.requires.room
    c.in_ok-closed.field-0 c.in_ok-rest-2.field-0-0 c.in_ok-rest-2.rest.now c.in_ok-rest-2.ensures c.in_ok-closed.ensures
