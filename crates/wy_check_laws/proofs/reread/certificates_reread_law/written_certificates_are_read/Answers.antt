use Rattle.wy_check_laws.proofs.reread_lemmas.CertificatesRereadFileLemmas.{reads_what_is_written}
use Rattle.wy_check_laws.proofs.reread.certificates_reread_law.written_certificates_are_read.Goals as goal

pub returns : goal.returns
returns c = record { read = reads_what_is_written }
