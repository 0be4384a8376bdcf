-- Numbers of which all above 16,384 are the same.
use Rattle.std.specs.Prelude.{ℕ, cond, leb}

-- the number, or 16,385 where it is above 16,384
abbrev pub cap : ℕ → ℕ
cap n = cond (leb n 16384) n 16385
