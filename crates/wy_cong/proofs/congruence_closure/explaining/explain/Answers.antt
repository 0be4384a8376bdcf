use Rattle.std.proofs.Common.{◌≤◌, length, arith}
use Rattle.wy_cong.proofs.congruence_closure_lemmas.ChosenLemmas.{same_end}
use Rattle.wy_cong.proofs.congruence_closure.explaining.explain.Goals as goal

pub returns-clause-give : goal.returns-clause-give
returns-clause-give c =
    let le : length c.args.equations.now ≤ c.loop-k.k = omega arith in
    same_end c.args.shapes.now c.args.equations.now c.loop-k.chosen c.loop-k.k c.args.s c.args.t le c.loop-k.invariant.chosen c.loop-k.invariant.same
