use Rattle.std.proofs.Common.{◌≡◌, drop, map}
use Rattle.wy_core.specs.CoreSeen.{conjuncts_of, seen_conjunct}
use Rattle.wy_vc_spec.specs.Named.{all_numbers}
use Rattle.wy_vc.proofs.numbers.are_whole.Given as goal

-- those passed are of numbers
abbrev pub invariant-loop-conjunct : goal.invariant-loop-conjunct
invariant-loop-conjunct l = all_numbers (conjuncts_of (map seen_conjunct (drop l.conjunct-index l.conjuncts))) ≡ all_numbers (conjuncts_of (map seen_conjunct l.conjuncts))
