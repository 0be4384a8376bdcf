use Rattle.wy_gen_laws.proofs.tests_lemmas.TestLemmas.{tests_followed}
use Rattle.wy_gen_laws.proofs.tests.tests_are_followed.Goals as goal

pub returns : goal.returns
returns c = record { followed = tests_followed }
