use Rattle.wy_term_text.proofs.reread_lemmas.RereadLemmas.{shown_is_read}
use Rattle.wy_term_text.proofs.reread.reread_law.shown_terms_are_read.Goals as goal

pub returns : goal.returns
returns c = shown_is_read
