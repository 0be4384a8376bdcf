-- What can be written is read again, for crates above.
use Rattle.wy_check_laws.specs.reread.Writable.{ReadsWhatIsWritten}
use Rattle.wy_check_laws.proofs.reread_lemmas.CertificatesRereadFileLemmas.{reads_what_is_written}

pub written_is_read : ReadsWhatIsWritten
written_is_read = reads_what_is_written
