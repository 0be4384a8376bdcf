use Rattle.wy_search_laws.proofs.sound_lemmas.EliminationLemmas.{refuted_never}
use Rattle.wy_search_laws.proofs.sound.eliminated_forms_are_refuted.Goals as goal

pub returns : goal.returns
returns c = refuted_never
