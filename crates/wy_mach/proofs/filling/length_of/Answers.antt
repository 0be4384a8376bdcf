use Rattle.std.proofs.Common.{◌<ℤ◌, ◌≤ℤ◌, ℤ, pos, arith, ap, sym, ◌∙◌, rules}
use Rattle.std.specs.Int.{w128}
use Rattle.std.proofs.lemmas.Int.{ints, to_z-of_z}
use mir.Val.{SFits}
use lib.IntN.{nat_abs}
use Rattle.wy_mach.proofs.FillLemmas.{no_negative, no_longer, is_long}
use Rattle.wy_mach.proofs.filling.length_of.Goals as goal

pub returns-then-number-lt0 : goal.returns-then-number-lt0
returns-then-number-lt0 c =
    let low : c.args.number <ℤ pos 0 = omega (arith, ints) in
    no_negative c.args.number low

pub returns-then-number-gt9223372036854775807 : goal.returns-then-number-gt9223372036854775807
returns-then-number-gt9223372036854775807 c =
    let high : pos 9223372036854775807 <ℤ c.args.number = omega (arith, ints) in
    no_longer c.args.number high

pub returns : goal.returns
returns c =
    let low : pos 0 ≤ℤ c.args.number = omega (arith, ints) in
    let high : c.args.number ≤ℤ pos 9223372036854775807 = omega (arith, ints) in
    let long = is_long c.args.number low high in
    let fits : SFits w128 c.args.number = search rules in
    (long.0, long.1 ∙ ap (λ (z : ℤ). pos (nat_abs z)) (sym (to_z-of_z w128 c.args.number fits)))
