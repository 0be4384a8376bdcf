use Rattle.wy_top_source.proofs.ApartLemmas.{not_refused, text_apart}
use Rattle.wy_top_source.proofs.law.a_program_is_refused_for_nothing.Goals as goal

pub returns : goal.returns
returns c = record { text = text_apart; program = not_refused }
