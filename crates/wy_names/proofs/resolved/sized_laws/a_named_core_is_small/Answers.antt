use Rattle.wy_names.proofs.resolved_lemmas.FormedLemmas.{named_small}
use Rattle.wy_names.proofs.resolved.sized_laws.a_named_core_is_small.Goals as goal

pub returns : goal.returns
returns c = record { small = named_small }
