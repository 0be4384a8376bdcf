use Rattle.std.proofs.Common.{◌≡◌, ℕ, ◌*◌, ℤ, ◌+ℤ◌, ap, subst, ◌∙◌, arith}
use Rattle.std.specs.Bool.{beq}
use Rattle.std.specs.Int.{w128}
use Rattle.std.proofs.lemmas.Int.{to_z-of_z}
use Rattle.wy_check.specs.Seen.{signed_number, IsNear}
use Rattle.wy_check.proofs.WholeLemmas.{less_is}
use Rattle.wy_check.proofs.whole.less_product.Goals as goal

pub returns-in-Some : goal.returns-in-Some
returns-in-Some c =
    let a = c.args.a in
    let o = c.as_whole-other.result in
    let o_is = rw (to_z-of_z w128 c.args.c c.ranges.c) at c.as_whole-other.ensures.value in
    let z_is = rw (to_z-of_z w128 c.args.z c.ranges.z) at c.as_whole.ensures.value in
    let size : c.in-Some.size ≡ a.size * o.size = omega (arith, c.in-Some.ensures) in
    subst (IsNear c.sum.result)
    (ap (λ (x : ℤ). x +ℤ signed_number (beq a.negative o.negative) c.in-Some.size) z_is
    ∙ (ap (λ (n : ℕ). c.args.z +ℤ signed_number (beq a.negative o.negative) n) size ∙ less_is c.args.z c.args.c a.negative o.negative a.size o.size o_is))
    c.sum.ensures

pub returns-in-None : goal.returns-in-None
returns-in-None c =
    let a = c.args.a in
    let o = c.as_whole-other.result in
    let o_is = rw (to_z-of_z w128 c.args.c c.ranges.c) at c.as_whole-other.ensures.value in
    let far = rw (to_z-of_z w128 c.args.z c.ranges.z) at c.far_sum.ensures in
    subst (IsNear c.far_sum.result) (less_is c.args.z c.args.c a.negative o.negative a.size o.size o_is) far
