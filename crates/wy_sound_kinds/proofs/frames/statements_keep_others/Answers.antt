use Rattle.wy_sound_kinds.proofs.frames_lemmas.FrameLemmas.{statements_keep}
use Rattle.wy_sound_kinds.proofs.frames.statements_keep_others.Goals as goal

pub returns : goal.returns
returns c = record { keep = statements_keep }
