use Rattle.wy_gen_sources.proofs.programs_lemmas.DeclLemmas.{named_own}
use Rattle.wy_gen_sources.proofs.programs.named_counters_are_own.Goals as goal

pub returns : goal.returns
returns c = record { own = named_own }
