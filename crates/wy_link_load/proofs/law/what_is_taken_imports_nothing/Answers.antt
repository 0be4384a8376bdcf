use Rattle.wy_link_load.proofs.AloneLemmas.{takes_nothing}
use Rattle.wy_link_load.proofs.law.what_is_taken_imports_nothing.Goals as goal

pub returns : goal.returns
returns c = record { nothing = takes_nothing }
