use Rattle.wy_batch.proofs.OneLemmas.{one_list}
use Rattle.wy_batch.proofs.law.one_list.Goals as goal

pub returns : goal.returns
returns c = record { one = one_list }
