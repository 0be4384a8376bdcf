use Rattle.wy_gen_sources.proofs.programs_lemmas.KeepLemmas.{named_nothing_dead}
use Rattle.wy_gen_sources.proofs.programs.named_programs_keep_nothing_dead.Goals as goal

pub returns : goal.returns
returns c = record { keep = named_nothing_dead }
