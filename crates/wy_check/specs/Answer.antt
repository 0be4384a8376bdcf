-- What the checker answers.
use Rattle.std.specs.Prelude.{ℕ, Option, Some, None}
use Rattle.wy_check.specs.declared.checking.Checked.{Checked}
use Rattle.wy_check.specs.declared.checking.Checked.TheVariants.{Yes, No}

-- the number of the first bad step, if there is one
abbrev pub bad_step : Checked → Option ℕ
bad_step Yes = None
bad_step (No k) = Some k
