use Rattle.wy_vc.proofs.TestedLemmas.{types_if}
use Rattle.wy_vc.proofs.tests_of_types.types_tested.Goals as goal

pub returns : goal.returns
returns c = record { value = types_if c.args.terms.now c.args.roots.now c.in_ok-all.all.items c.as_slice.result.now c.types_at.result c.as_slice.ensures.value c.types_at.ensures.value c.in_ok-all.ensures.below c.in_ok-all.ensures.value c.in_ok-all.ensures.whole }
