use Rattle.wy_value.proofs.LawLemmas.{one_fault, no_text_has_a_fault}
use Rattle.wy_value.proofs.laws.a_text_has_one_fault.Goals as goal

pub returns : goal.returns
returns c = record { alone = one_fault; apart = no_text_has_a_fault }
