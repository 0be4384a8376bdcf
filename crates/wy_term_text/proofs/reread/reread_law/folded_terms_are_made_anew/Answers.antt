use Rattle.wy_term_text.proofs.reread_lemmas.RereadLemmas.{folded_stays, made_folded, folded_twice}
use Rattle.wy_term_text.proofs.reread.reread_law.folded_terms_are_made_anew.Goals as goal

pub returns : goal.returns
returns c = record { stays = folded_stays; folded = made_folded; twice = folded_twice }
