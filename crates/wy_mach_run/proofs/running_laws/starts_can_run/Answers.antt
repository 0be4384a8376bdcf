use Rattle.wy_mach_run.proofs.CanRunLemmas.{starts_can}
use Rattle.wy_mach_run.proofs.running_laws.starts_can_run.Goals as goal

pub returns : goal.returns
returns c = record { can = starts_can }
