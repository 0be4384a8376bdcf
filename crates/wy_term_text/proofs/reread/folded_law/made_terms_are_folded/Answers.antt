use Rattle.wy_term_text.proofs.reread_lemmas.FoldedLemmas.{folded_is}
use Rattle.wy_term_text.proofs.reread.folded_law.made_terms_are_folded.Goals as goal

pub returns : goal.returns
returns c = folded_is
