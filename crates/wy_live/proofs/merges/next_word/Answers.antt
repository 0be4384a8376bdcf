use Rattle.std.proofs.Common.{arith}
use Rattle.wy_live.proofs.MergeLemmas.{rising, front_one, front_other}
use Rattle.wy_live.proofs.merges.next_word.Goals as goal

pub returns-then-one-i : goal.returns-then-one-i
returns-then-one-i c =
    let one = c.args.one.now in
    let other = c.args.other.now in
    let less = c.if-one-i.true in
    let e = c.first-then-one-i.ensures in
    record {
      value = front_one one other c.args.i c.args.j c.first-then-one-i.result c.requires.one c.if-i-one.false c.requires.other_within
          (λ m l r. let up = rising other c.args.j m c.requires.other l r in omega (arith, less, up)) e.word e.one e.other;
    }

pub returns-then-other-j : goal.returns-then-other-j
returns-then-other-j c =
    let one = c.args.one.now in
    let other = c.args.other.now in
    let less = c.if-other-j.true in
    let e = c.second-then-other-j.ensures in
    record {
      value = front_other one other c.args.i c.args.j c.second-then-other-j.result c.requires.other c.if-j-other.false c.requires.one_within
          (λ m l r. let up = rising one c.args.i m c.requires.one l r in omega (arith, less, up)) e.word e.one e.other;
    }
