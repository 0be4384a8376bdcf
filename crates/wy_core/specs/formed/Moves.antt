-- More variables in scope.
use Rattle.std.specs.Prelude.{◌<◌, ◌≤◌, ℕ}
use Rattle.wy_core.specs.formed.Bound.{Scope, Has}

-- from the variables of the first scope, n of which have names, to those of the second with m names: none is lost, and each that comes has a new number
pub record Moves (n m : ℕ) (vs ws : Scope) : Type 0 where
  pub within : n ≤ m
  pub all : (v : ℕ) → Has vs v → Has ws v
  pub none : (v : ℕ) → Has ws v → v < n → Has vs v
