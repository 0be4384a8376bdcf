use Rattle.wy_sound.proofs.sources_lemmas.VariableLemmas.{named_variables}
use Rattle.wy_sound.proofs.sources.named_types_have_variables.Goals as goal

pub returns : goal.returns
returns c = record { variables = named_variables }
