use Rattle.wy_names.proofs.resolved_lemmas.FormedLemmas.{named_quiet}
use Rattle.wy_names.proofs.resolved.sized_laws.a_named_core_is_quiet.Goals as goal

pub returns : goal.returns
returns c = record { quiet = named_quiet }
