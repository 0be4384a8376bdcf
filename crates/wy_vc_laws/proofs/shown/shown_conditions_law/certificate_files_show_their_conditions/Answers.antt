use Rattle.wy_vc_laws.proofs.shown_lemmas.CertifiedLemmas.{read_certificate_shows, certified_conditions_hold, kept_certificate_shows}
use Rattle.wy_vc_laws.proofs.shown.shown_conditions_law.certificate_files_show_their_conditions.Goals as goal

pub returns : goal.returns
returns c = record {
  one = read_certificate_shows;
  list = certified_conditions_hold;
  kept = kept_certificate_shows;
}
