use Rattle.wy_names.proofs.resolved_lemmas.CallDeclLemmas.{named_calls_well}
use Rattle.wy_names.proofs.resolved.resolved_laws.a_named_core_calls_what_it_may.Goals as goal

pub returns : goal.returns
returns c = record { calls = named_calls_well }
