use Rattle.std.proofs.Common.{◌≡◌, ◌-◌}
use Rattle.wy_reading.specs.Reader.{loop}
use Rattle.wy_lex.specs.declared.symbol.Character.TheVariants.{Inside}
use Rattle.wy_lex.specs.Symbols.{holds}
use Rattle.wy_lex.specs.Reading.{further, inside}
use Rattle.wy_lex.proofs.lexeme.inside.Given as goal

-- what the loop still reads completes what it made
abbrev pub invariant-loop-turn : goal.invariant-loop-turn
invariant-loop-turn l = inside l.fn.text ≡ loop (holds Inside) further (l._turn-end - l._turn) l.codes l.rest
