use Rattle.std.proofs.Common.{rules}
use Rattle.wy_term_text.proofs.spell_lemmas.GoesLemmas.{of_number}
use Rattle.wy_term_text.proofs.spell_lemmas.GoesUp.{cover_number}
use Rattle.wy_term_text.proofs.spell.expand.int_term.Goals as goal

pub returns-in_ok-alone-in-Some-clause-sound : goal.returns-in_ok-alone-in-Some-clause-sound
returns-in_ok-alone-in-Some-clause-sound c =
    search (rules, of_number)

pub returns-in_ok-alone-in-Some-clause-complete : goal.returns-in_ok-alone-in-Some-clause-complete
returns-in_ok-alone-in-Some-clause-complete c =
    search (rules, cover_number)
