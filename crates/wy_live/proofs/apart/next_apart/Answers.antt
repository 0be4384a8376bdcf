use Rattle.wy_live.proofs.ApartLemmas.{passing_begun, passing_more, next_found}
use Rattle.wy_live.proofs.apart.next_apart.Goals as goal

pub loop-i-init : goal.loop-i-init
loop-i-init c =
    let so = passing_begun c.args.one.now c.args.other.now c.args.from c.begin-i.result c.begin-j.result c.begin-i.ensures.value c.begin-j.ensures.value in
    record { one_within = so.one_within; other_within = so.other_within; behind = so.behind; before = so.before; passed = so.passed }

pub loop-i-preserved : goal.loop-i-preserved
loop-i-preserved c =
    let now = c.loop-i.invariant in
    let so = passing_more c.args.one.now c.args.other.now c.args.from c.loop-i.i c.loop-i.j c.reached-j.result c.bits_of-bits.result c.least.result c.first_apart-bit.result c.requires.one
    (record { one_within = now.one_within; other_within = now.other_within; behind = now.behind; before = now.before; passed = now.passed })
    c.loop-i-test.true c.reached-j.ensures.value c.bits_of-bits.ensures.value c.least.ensures.value c.first_apart-bit.ensures.between c.if-bit-lt64.false in
    record { one_within = so.one_within; other_within = so.other_within; behind = so.behind; before = so.before; passed = so.passed }

pub returns-then-bit-lt64-clause-found : goal.returns-then-bit-lt64-clause-found
returns-then-bit-lt64-clause-found c =
    let now = c.loop-i.invariant in
    next_found c.args.one.now c.args.other.now c.args.from c.loop-i.i c.loop-i.j c.reached-j.result c.bits_of-bits.result c.least.result c.first_apart-bit.result c.requires.one
    (record { one_within = now.one_within; other_within = now.other_within; behind = now.behind; before = now.before; passed = now.passed })
    c.loop-i-test.true c.reached-j.ensures.value c.bits_of-bits.ensures.value c.least.ensures.value c.first_apart-bit.ensures.between
    c.if-bit-lt64.true c.first_apart-bit.ensures.behind (c.first_apart-bit.ensures.found c.if-bit-lt64.true)
