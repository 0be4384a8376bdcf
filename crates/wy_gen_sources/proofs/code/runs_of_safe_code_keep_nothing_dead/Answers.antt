use Rattle.wy_gen_sources.proofs.code_lemmas.RunLemmas.{safe_runs}
use Rattle.wy_gen_sources.proofs.code.runs_of_safe_code_keep_nothing_dead.Goals as goal

pub returns : goal.returns
returns c = record { keep = safe_runs }
