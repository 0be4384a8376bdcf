use Rattle.wy_top.proofs.ShownLemmas.{closed_is_true, read_is_true}
use Rattle.wy_top.proofs.verdict_laws.closed_conditions_hold.Goals as goal

pub returns : goal.returns
returns c = record { closed = closed_is_true; read = read_is_true }
