use Rattle.wy_names.proofs.resolved_lemmas.OnceLemmas.{not_both}
use Rattle.wy_names.proofs.resolved.laws.a_named_program_is_not_refused.Goals as goal

pub returns : goal.returns
returns c = record { apart = not_both }
