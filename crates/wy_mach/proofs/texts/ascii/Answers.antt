use Rattle.std.proofs.Common.{◌<ℤ◌, ◌≤ℤ◌, ℤ, Some, pos, arith, ap, ◌∙◌, rules}
use Rattle.std.specs.Int.{w128}
use Rattle.std.proofs.lemmas.Int.{ints, to_z-of_z}
use mir.Val.{SFits}
use lib.IntN.{nat_abs}
use Rattle.wy_mach.proofs.TextLemmas.{no_negative, no_greater, is_code}
use Rattle.wy_mach.proofs.texts.ascii.Goals as goal

pub returns-then-number-lt0 : goal.returns-then-number-lt0
returns-then-number-lt0 c =
    let low : c.args.number <ℤ pos 0 = omega (arith, ints) in
    no_negative c.args.number low

pub returns-then-number-gt127 : goal.returns-then-number-gt127
returns-then-number-gt127 c =
    let high : pos 127 <ℤ c.args.number = omega (arith, ints) in
    no_greater c.args.number high

pub returns : goal.returns
returns c =
    let low : pos 0 ≤ℤ c.args.number = omega (arith, ints) in
    let high : c.args.number ≤ℤ pos 127 = omega (arith, ints) in
    let fits : SFits w128 c.args.number = search rules in
    ap (λ (z : ℤ). Some (nat_abs z)) (to_z-of_z w128 c.args.number fits) ∙ is_code c.args.number low high
