use Rattle.std.proofs.Common.{refl}
use Rattle.wy_top.specs.Runs.{whole, front}
use Rattle.wy_top.proofs.running.report.Goals as goal

pub returns-in-Ok-clause-reports : goal.returns-in-Ok-clause-reports
returns-in-Ok-clause-reports g c = whole refl c.in-Ok.ensures.taken

pub returns-in-Err-clause-reports : goal.returns-in-Err-clause-reports
returns-in-Err-clause-reports g c = front refl c.in-Err.ensures.cause c.in-Err.ensures.front
