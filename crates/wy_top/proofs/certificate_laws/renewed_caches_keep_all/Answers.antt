use Rattle.wy_top.proofs.KeepLemmas.{renewed_keeps_all}
use Rattle.wy_top.proofs.certificate_laws.renewed_caches_keep_all.Goals as goal

pub returns : goal.returns
returns c = record { kept = renewed_keeps_all }
