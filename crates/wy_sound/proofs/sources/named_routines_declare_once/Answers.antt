use Rattle.wy_sound.proofs.sources_lemmas.OnceLemmas.{named_once}
use Rattle.wy_sound.proofs.sources.named_routines_declare_once.Goals as goal

pub returns : goal.returns
returns c = record { once = named_once }
