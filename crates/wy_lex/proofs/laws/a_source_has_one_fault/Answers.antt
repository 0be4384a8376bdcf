use Rattle.wy_lex.proofs.Refusals.{one_fault, no_reading_with_a_fault}
use Rattle.wy_lex.proofs.laws.a_source_has_one_fault.Goals as goal

pub returns : goal.returns
returns c = record { one = one_fault; none = no_reading_with_a_fault }
