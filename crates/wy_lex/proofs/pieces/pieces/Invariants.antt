use Rattle.std.proofs.Common.{◌≡◌, ◌≤◌, ◌-◌, length, true}
use Rattle.wy_reading.specs.Reader.{loop}
use Rattle.wy_lex.specs.declared.symbol.Character.TheVariants.{Piece}
use Rattle.wy_lex.specs.Symbols.{holds}
use Rattle.wy_lex.specs.Reading.{piece, pieces}
use Rattle.wy_lex.proofs.pieces.pieces.Given as goal

-- what the loop still reads completes what it made
abbrev pub invariant-loop-turn : goal.invariant-loop-turn
invariant-loop-turn l = (pieces true l.fn.state l.fn.text ≡ loop (holds Piece) (piece true) (l._turn-end - l._turn) l.state l.rest) × (l.state.depth ≤ length l.state.made)
