use Rattle.wy_sound_walks.proofs.depends_lemmas.BeginLemmas.{hypotheses_grow}
use Rattle.wy_sound_walks.proofs.depends.hypotheses_grow.Goals as goal

pub returns : goal.returns
returns c = record { grow = hypotheses_grow }
