use Rattle.wy_probe.proofs.OnceLemmas.{finds_once}
use Rattle.wy_probe.proofs.SomeLemmas.{finds_some}
use Rattle.wy_probe.proofs.laws.there_is_one_finding.Goals as goal

pub returns : goal.returns
returns c = record { some = finds_some; once = finds_once }
