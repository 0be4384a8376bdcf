use Rattle.wy_sound_walks.proofs.depends_lemmas.BlockLemmas.{blocks_begin}
use Rattle.wy_sound_walks.proofs.depends.hypotheses_grow_in_blocks.Goals as goal

pub returns : goal.returns
returns c = record { grow = blocks_begin }
