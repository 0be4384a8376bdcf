use Rattle.std.proofs.Common.{take}
use Rattle.wy_data.specs.scan.Front.{AllPass, is_word_byte}
use Rattle.wy_data.proofs.scan.front.run.Given as goal

abbrev pub invariant-loop-end : goal.invariant-loop-end
invariant-loop-end l = AllPass is_word_byte (take l.end l.text)
