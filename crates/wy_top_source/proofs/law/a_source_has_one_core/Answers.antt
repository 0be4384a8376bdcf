use Rattle.wy_top_source.proofs.OneLemmas.{one_core}
use Rattle.wy_top_source.proofs.law.a_source_has_one_core.Goals as goal

pub returns : goal.returns
returns c = record { one = one_core }
