use Rattle.std.proofs.Common.{rules, FitsSigned}
use Rattle.std.specs.Int.{w128}
use Rattle.std.proofs.lemmas.Int.{to_z-of_z}
use Rattle.wy_lin.proofs.SumLemmas.{part_put}
use Rattle.wy_lin.proofs.sum.plus_part.Goals as goal

pub returns-in_ok-insert-in-Ok : goal.returns-in_ok-insert-in-Ok
returns-in_ok-insert-in-Ok c =
    let fits_d : FitsSigned w128 c.in-Ok.d = search rules in
    let fits_a : FitsSigned w128 c.coefficient.result = search rules in
    let gave = rw (to_z-of_z w128 c.coefficient.result fits_a, to_z-of_z w128 c.args.c c.ranges.c) at c.in-Ok.ensures.gives in
    let put = rw (to_z-of_z w128 c.in-Ok.d fits_d) at c.in_ok-insert-in-Ok.ensures.entries in
    record { gives = part_put _ _ c.args.m c.args.c c.coefficient.result c.in-Ok.d c.args.v c.coefficient.ensures.value gave put }
