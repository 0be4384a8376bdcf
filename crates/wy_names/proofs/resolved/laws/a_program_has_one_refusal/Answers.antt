use Rattle.wy_names.proofs.resolved_lemmas.OnceLemmas.{refused_once}
use Rattle.wy_names.proofs.resolved.laws.a_program_has_one_refusal.Goals as goal

pub returns : goal.returns
returns c = record { one = refused_once }
