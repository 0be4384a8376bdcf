use Rattle.wy_gen_sources.proofs.code_lemmas.ProgramLemmas.{nothing_dead}
use Rattle.wy_gen_sources.proofs.code.nothing_dead_is_kept.Goals as goal

pub returns : goal.returns
returns c = record { keep = nothing_dead }
