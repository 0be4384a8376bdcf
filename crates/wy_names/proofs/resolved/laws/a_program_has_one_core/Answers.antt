use Rattle.wy_names.proofs.resolved_lemmas.CoreLemmas.{named_once}
use Rattle.wy_names.proofs.resolved.laws.a_program_has_one_core.Goals as goal

pub returns : goal.returns
returns c = record { one = named_once }
