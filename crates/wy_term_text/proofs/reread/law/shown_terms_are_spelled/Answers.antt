use Rattle.wy_term_text.proofs.reread_lemmas.ShownLemmas.{shown_spells}
use Rattle.wy_term_text.proofs.reread.law.shown_terms_are_spelled.Goals as goal

pub returns : goal.returns
returns c = shown_spells
