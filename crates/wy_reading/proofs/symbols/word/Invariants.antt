use Rattle.std.proofs.Common.{◌≡◌, ◌-◌, length, take, drop}
use Rattle.wy_reading.specs.Reader.{loop, letter}
use Rattle.wy_reading.specs.Reader as reader
use Rattle.wy_reading.proofs.symbols.word.Given as goal

-- what the loop still reads completes the word
abbrev pub invariant-loop-end : goal.invariant-loop-end
invariant-loop-end g l =
    reader.word {X = g.row.X.Denot} (g.C.Class.has l.fn.start) (g.D.Class.has l.part) l.text
    ≡ loop (g.D.Class.has l.part) (letter (g.D.Class.has l.part)) (length l.text - l.end) (take l.end l.text) (drop l.end l.text)
