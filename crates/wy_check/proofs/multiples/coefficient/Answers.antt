use Rattle.std.proofs.Common.{rules, sym, FitsSigned}
use Rattle.std.specs.Int.{w128}
use Rattle.std.proofs.lemmas.Int.{to_z-of_z}
use Rattle.wy_lin.proofs.SumLemmas.{coefficient_some, coefficient_none}
use Rattle.wy_check.proofs.multiples.coefficient.Goals as goal

pub returns-in-Some : goal.returns-in-Some
returns-in-Some c =
    let fits : FitsSigned w128 c.in-Some.c.now = search rules in
    rw (to_z-of_z w128 c.in-Some.c.now fits) (coefficient_some c.args.coefficients.now.entries c.args.v c.in-Some.c.now (sym c.in-Some.ensures.value))

pub returns-in-None : goal.returns-in-None
returns-in-None c = coefficient_none c.args.coefficients.now.entries c.args.v (sym c.in-None.ensures.value)
