use Rattle.wy_top.proofs.GivenLemmas.{found_is_given}
use Rattle.wy_top.proofs.certificate_laws.found_certificates_are_valid.Goals as goal

pub returns : goal.returns
returns c = record { given = found_is_given }
