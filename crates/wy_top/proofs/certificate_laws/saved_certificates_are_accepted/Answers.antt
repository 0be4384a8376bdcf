use Rattle.wy_top.proofs.SavedLemmas.{saved_is_accepted}
use Rattle.wy_top.proofs.certificate_laws.saved_certificates_are_accepted.Goals as goal

pub returns : goal.returns
returns c = record { accepted = saved_is_accepted }
