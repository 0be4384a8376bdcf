use Rattle.wy_top_words.proofs.WorkerLemmas.{never_by_workers}
use Rattle.wy_top_words.proofs.law.workers_change_nothing.Goals as goal

pub returns : goal.returns
returns c = record { nothing = never_by_workers }
