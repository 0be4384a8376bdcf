use Rattle.std.proofs.Common.{arith}
use Rattle.wy_live.proofs.WordLemmas.{begun_there, begun_elsewhere}
use Rattle.wy_live.proofs.words.bits_of.Goals as goal
use Rattle.wy_live.proofs.words.bits_of.Goals.{else-at-words-via-then-at-words+else-words-at, else-at-words-via-else-at-words}

pub returns-then-words-at : goal.returns-then-words-at
returns-then-words-at c = record { value = λ x is. begun_there c.args.words.now c.args.at x c.args.place c.requires.order c.if-at-words.true c.if-words-at.true is }

pub returns-else-at-words : goal.returns-else-at-words
returns-else-at-words c = record {
  value = λ x is. begun_elsewhere c.args.words.now c.args.at x c.args.place c.requires.order c.requires.begins
      (elim c.else-at-words.branch [
        | else-at-words-via-then-at-words+else-words-at w ↦ λ _. w.if-words-at.false
        | else-at-words-via-else-at-words w ↦ λ h. let g = w.if-at-words.false in absurd (omega (arith, h, g))
      ]) is;
}
