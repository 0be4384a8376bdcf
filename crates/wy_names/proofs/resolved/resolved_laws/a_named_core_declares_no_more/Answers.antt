use Rattle.wy_names.proofs.resolved_lemmas.ResolvedCoreLemmas.{named_few}
use Rattle.wy_names.proofs.resolved.resolved_laws.a_named_core_declares_no_more.Goals as goal

pub returns : goal.returns
returns c = record { few = named_few }
