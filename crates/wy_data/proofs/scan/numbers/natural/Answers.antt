use Rattle.wy_data.proofs.scan_lemmas.NumberLemmas.{no_natural}
use Rattle.wy_data.proofs.scan.numbers.natural.Goals as goal

pub returns-in-None : goal.returns-in-None
returns-in-None c = record { value = no_natural _ _ _ c.digits.ensures.value (rw c.in-None.is at c.in_ok-unsigned.ensures.value) }
