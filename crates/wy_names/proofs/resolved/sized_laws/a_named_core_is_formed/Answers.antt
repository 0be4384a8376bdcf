use Rattle.wy_names.proofs.resolved_lemmas.FormedLemmas.{named_formed}
use Rattle.wy_names.proofs.resolved.sized_laws.a_named_core_is_formed.Goals as goal

pub returns : goal.returns
returns c = record { formed = named_formed }
