use Rattle.wy_names.proofs.resolved_lemmas.OnceLemmas.{refused_by}
use Rattle.wy_names.proofs.resolved.laws.a_refused_program_has_its_fault.Goals as goal

pub returns : goal.returns
returns c = record { own = refused_by }
