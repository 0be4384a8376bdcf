-- Bytes of texts.
use Rattle.std.specs.Prelude.{◌≡◌, ℕ, ℤ, pos, List, true, Result, Ok, Err}
use Rattle.wy_value.specs.Datum.{Datum, Whole}
use Rattle.wy_term.specs.declared.cond.CondKind.TheVariants.{Requires}
use Rattle.wy_sem.specs.Evaluation.{is_ascii}
use Rattle.wy_sem.specs.Meter as sem
use Rattle.wy_sem.specs.Meter.{Run, check}
use Rattle.wy_sem.specs.Operations.{as_number}
use Rattle.wy_eval_exprs.specs.declared.stop.Stop.{Stop}
use Rattle.wy_eval_exprs.specs.Outcomes.{stopped}

-- the byte that the datum is, or the fault that it makes, whatever follows
abbrev pub AsciiOf : ℕ → Datum → Result ℕ Stop → Type 0
AsciiOf at d (Ok b) = (d ≡ Whole (pos b)) × (is_ascii (pos b) ≡ true)
AsciiOf at d (Err e) = (next : ℤ → Run (List ℕ)) (m : sem.Meter) → as_number at d (λ z. check (is_ascii z) Requires at (next z)) m ≡ stopped e m
