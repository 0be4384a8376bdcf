use Rattle.std.proofs.Common.{◌<ℤ◌, ◌≤ℤ◌, pos, arith, ap, ◌∙◌, rules}
use Rattle.std.specs.Int.{w128}
use Rattle.std.proofs.lemmas.Int.{ints, to_z-of_z}
use mir.Val.{SFits}
use lib.IntN.{nat_abs}
use Rattle.wy_heap.specs.declared.part.Slot.TheVariants.{Item}
use Rattle.wy_mach.proofs.UpdateLemmas.{no_negative, no_greater, is_index}
use Rattle.wy_mach.proofs.paths.item_slot.Goals as goal

pub returns-then-index-lt0 : goal.returns-then-index-lt0
returns-then-index-lt0 c =
    let low : c.args.index <ℤ pos 0 = omega (arith, ints) in
    no_negative c.args.index low

pub returns-then-index-gt18446744073709551615 : goal.returns-then-index-gt18446744073709551615
returns-then-index-gt18446744073709551615 c =
    let high : pos 18446744073709551615 <ℤ c.args.index = omega (arith, ints) in
    let beyond = no_greater c.args.index high in
    (beyond.0, ap Item beyond.1)

pub returns : goal.returns
returns c =
    let low : pos 0 ≤ℤ c.args.index = omega (arith, ints) in
    let high : c.args.index ≤ℤ pos 18446744073709551615 = omega (arith, ints) in
    let found = is_index c.args.index low high in
    let fits : SFits w128 c.args.index = search rules in
    (found.0, ap Item (ap nat_abs (to_z-of_z w128 c.args.index fits) ∙ found.1))
