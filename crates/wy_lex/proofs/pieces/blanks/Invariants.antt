use Rattle.std.proofs.Common.{◌≡◌, ◌-◌, length, take, drop}
use Rattle.wy_reading.specs.Reader.{loop, letter}
use Rattle.wy_lex.specs.declared.symbol.Character.TheVariants.{Blank}
use Rattle.wy_lex.specs.Symbols.{holds}
use Rattle.wy_lex.specs.Reading.{blanks}
use Rattle.wy_lex.proofs.pieces.blanks.Given as goal

-- what the loop still reads completes what it passed
abbrev pub invariant-loop-end : goal.invariant-loop-end
invariant-loop-end l = blanks l.text ≡ loop (holds Blank) (letter (holds Blank)) (length l.text - l.end) (take l.end l.text) (drop l.end l.text)
