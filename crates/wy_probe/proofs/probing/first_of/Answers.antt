use Rattle.std.proofs.Common.{◌≡◌, ◌∙◌, false, sym, subst}
use Rattle.wy_probe.specs.Tuples.{Fit, has_empty}
use Rattle.wy_probe.proofs.FitLemmas.{zeros_fit}
use Rattle.wy_probe.proofs.probing.first_of.Goals as goal

pub returns-clause-fit : goal.returns-clause-fit
returns-clause-fit c =
    let full : has_empty c.args.lengths.now ≡ false = sym c.has_empty.ensures.value ∙ c.if-has_empty.false in
    subst (Fit c.args.lengths.now) (sym c.in_ok-first_tuple.ensures.value) (zeros_fit c.args.lengths.now full)
