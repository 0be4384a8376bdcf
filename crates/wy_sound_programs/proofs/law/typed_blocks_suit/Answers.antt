use Rattle.wy_sound_programs.proofs.SuitLemmas.{typed_blocks_suit}
use Rattle.wy_sound_programs.proofs.law.typed_blocks_suit.Goals as goal

pub returns : goal.returns
returns c = record { suits = typed_blocks_suit }
