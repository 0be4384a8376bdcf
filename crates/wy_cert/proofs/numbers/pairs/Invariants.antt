use Rattle.wy_cert.specs.Only.{GoesOn}
use Rattle.wy_cert.specs.Numbers.{ArePairs}
use Rattle.wy_cert.proofs.numbers.pairs.Given as goal

abbrev pub invariant-loop-turn : goal.invariant-loop-turn
invariant-loop-turn l = GoesOn l.pairs.items (ArePairs l.rest) (ArePairs l.fn.text)
