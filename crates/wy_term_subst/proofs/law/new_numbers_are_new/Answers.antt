use Rattle.wy_term_subst.proofs.NameLemmas.{new_number-new}
use Rattle.wy_term_subst.proofs.law.new_numbers_are_new.Goals as goal

pub returns : goal.returns
returns c = new_number-new
