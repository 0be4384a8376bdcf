use Rattle.wy_names.proofs.resolved_lemmas.OnceLemmas.{judged_once}
use Rattle.wy_names.proofs.resolved.laws.a_program_has_one_fault.Goals as goal

pub returns : goal.returns
returns c = record { one = judged_once }
