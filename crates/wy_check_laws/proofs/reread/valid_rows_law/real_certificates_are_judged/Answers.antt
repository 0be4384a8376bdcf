use Rattle.wy_check_laws.proofs.reread_lemmas.RealHold.{real_hold}
use Rattle.wy_check_laws.proofs.reread.valid_rows_law.real_certificates_are_judged.Goals as goal

pub returns : goal.returns
returns c = record { rows = real_hold }
