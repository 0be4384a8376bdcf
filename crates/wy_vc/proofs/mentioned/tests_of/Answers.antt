use Rattle.std.proofs.Common.{sym, ◌∙◌}
use Rattle.wy_vc.proofs.MeaningLemmas.{no_tests, tests_some}
use Rattle.wy_vc.proofs.mentioned.tests_of.Goals as goal

pub returns-in-None : goal.returns-in-None
returns-in-None c = record { value = sym (no_tests c.args.meanings.now c.args.number c.in-None.ensures.lookup.3) }

pub returns-in-Some : goal.returns-in-Some
returns-in-Some c = record { value = c.as_slice.ensures.value ∙ tests_some c.args.meanings.now c.args.number c.in-Some.meaning.now c.in-Some.ensures.lookup.3.0 c.in-Some.ensures.lookup.1 }
