-- What one set has and another lacks.
use Rattle.std.specs.Prelude.{◌≡◌, ◌≤◌, ◌<◌, ℕ, Bool, false, not, ◌&&◌}
use Rattle.wy_live.specs.Sets.{Variables, has}

-- the variable is in the one set and not in the other
abbrev pub is_lost : Variables → Variables → ℕ → Bool
is_lost s t x = has s x && not (has t x)

-- no variable between these is
abbrev pub NoneLost : Variables → Variables → ℕ → ℕ → Type 0
NoneLost s t from to = (x : ℕ) → from ≤ x → x < to → is_lost s t x ≡ false
