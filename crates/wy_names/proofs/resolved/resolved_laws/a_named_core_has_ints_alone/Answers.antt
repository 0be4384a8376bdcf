use Rattle.wy_names.proofs.resolved_lemmas.LiteralLemmas.{named_ints_alone}
use Rattle.wy_names.proofs.resolved.resolved_laws.a_named_core_has_ints_alone.Goals as goal

pub returns : goal.returns
returns c = record { ints = named_ints_alone }
