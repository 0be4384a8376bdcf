use Rattle.std.proofs.Common.{take}
use Rattle.wy_data.specs.scan.Front.{AllPass, is_digit}
use Rattle.wy_data.proofs.scan.front.digits.Given as goal

abbrev pub invariant-loop-end : goal.invariant-loop-end
invariant-loop-end l = AllPass is_digit (take l.end l.text)
