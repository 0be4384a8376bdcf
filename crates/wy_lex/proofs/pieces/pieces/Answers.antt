use Rattle.std.proofs.Common.{◌-◌, ◌∙◌, suc, length, sym, true, arith}
use Rattle.wy_reading.proofs.Turns.{loop-fails}
use Rattle.wy_lex.specs.declared.symbol.Character.TheVariants.{Piece}
use Rattle.wy_lex.specs.Symbols.{holds}
use Rattle.wy_lex.specs.Reading.{piece}
use Rattle.wy_lex.proofs.pieces.pieces.Goals as goal

pub returns-in-Err : goal.returns-in-Err
returns-in-Err c = λ g.
    c.loop-turn.invariant.0
    ∙ loop-fails (holds Piece) (piece true) (length c.args.text.now - c.loop-turn._turn) (length c.args.text.now - suc c.loop-turn._turn) c.loop-turn.state c.loop-turn.rest.now c.in-Err.stop
    (omega arith) (sym c.next_is.ensures ∙ c.if-not-next_is.false) (c.in-Err.ensures.reads g)
