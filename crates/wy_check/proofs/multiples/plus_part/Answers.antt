use Rattle.std.proofs.Common.{rules, sym, FitsSigned}
use Rattle.std.specs.Int.{w128}
use Rattle.std.proofs.lemmas.Int.{to_z-of_z}
use Rattle.wy_lin.proofs.SumLemmas.{part_put}
use Rattle.wy_check.specs.Seen.{factor_of}
use Rattle.wy_check.proofs.multiples.plus_part.Goals as goal

pub returns-in_ok-insert-in-Some : goal.returns-in_ok-insert-in-Some
returns-in_ok-insert-in-Some c =
    let fits_d : FitsSigned w128 c.in-Some.d = search rules in
    let fits_a : FitsSigned w128 c.coefficient.result = search rules in
    let gave = rw (to_z-of_z w128 c.coefficient.result fits_a, to_z-of_z w128 c.args.c c.ranges.c) at c.in-Some.ensures in
    let put = rw (to_z-of_z w128 c.in-Some.d fits_d) at c.in_ok-insert-in-Some.ensures.entries in
    sym (part_put c.args.coefficients.entries c.insert.new.self.entries (factor_of c.args.m) c.args.c c.coefficient.result c.in-Some.d c.args.v c.coefficient.ensures (sym gave) put)
