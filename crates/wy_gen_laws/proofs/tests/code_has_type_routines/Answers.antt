use Rattle.wy_gen_laws.proofs.tests_lemmas.RoutineLemmas.{has_type_routines}
use Rattle.wy_gen_laws.proofs.tests.code_has_type_routines.Goals as goal

pub returns : goal.returns
returns c = record { has = has_type_routines }
