use Rattle.wy_names.proofs.resolved_lemmas.ResolvedCoreLemmas.{named_bound}
use Rattle.wy_names.proofs.resolved.resolved_laws.a_named_core_is_bound.Goals as goal

pub returns : goal.returns
returns c = record { bound = named_bound }
