use Rattle.std.proofs.Common.{arith}
use Rattle.std.specs.Int.{w128}
use Rattle.std.proofs.lemmas.Int.{to_z-of_z}
use Rattle.wy_check.proofs.RatioLemmas.{ratio_left, ratio_there}
use Rattle.wy_check.proofs.whole.ratio.Goals as goal

pub returns-then-dividend-divisor-ne0-clause-value : goal.returns-then-dividend-divisor-ne0-clause-value
returns-then-dividend-divisor-ne0-clause-value c =
    let d = c.as_whole-divisor.result in
    let n = c.as_whole-dividend.result in
    let d_is = rw (to_z-of_z w128 c.args.q c.ranges.q) at c.as_whole-divisor.ensures.value in
    let n_is = rw (to_z-of_z w128 c.args.r c.ranges.r) at c.as_whole-dividend.ensures.value in
    ratio_left c.args.q c.args.r d.negative n.negative d.size n.size d_is n_is (omega (arith, c.if-divisor-eq0.false)) (omega (arith, c.if-dividend-eq0.false)) c.if-dividend-divisor-ne0.true

pub returns-clause-value : goal.returns-clause-value
returns-clause-value c =
    let d = c.as_whole-divisor.result in
    let n = c.as_whole-dividend.result in
    let d_is = rw (to_z-of_z w128 c.args.q c.ranges.q) at c.as_whole-divisor.ensures.value in
    let n_is = rw (to_z-of_z w128 c.args.r c.ranges.r) at c.as_whole-dividend.ensures.value in
    ratio_there c.args.q c.args.r d.negative n.negative d.size n.size d_is n_is (omega (arith, c.if-divisor-eq0.false)) (omega (arith, c.if-dividend-eq0.false)) c.if-dividend-divisor-ne0.false
