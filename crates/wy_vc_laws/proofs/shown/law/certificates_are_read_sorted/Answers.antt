use Rattle.wy_vc_laws.proofs.shown_lemmas.ReadLemmas.{reads_sorted}
use Rattle.wy_vc_laws.proofs.shown.law.certificates_are_read_sorted.Goals as goal

pub returns : goal.returns
returns c = record { sorted = reads_sorted }
