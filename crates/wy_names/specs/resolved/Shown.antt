-- Which faults there are, and which of two is given.
use Rattle.std.specs.Prelude.{◌≡◌, ◌⊎◌, ◌<◌, ◌≤◌, ℕ, Bool, true}
use Rattle.wy_names_scope.specs.declared.fault.Cause.{Cause}
use Rattle.wy_names_scope.specs.declared.fault.Fault.{Fault}
use Rattle.wy_names_scope.specs.Faults.{rank}

-- the first stands at a lesser place than the second, or at the same one with no greater rank
abbrev pub IsNoLater : Fault → Fault → Type 0
IsNoLater g f = (g.at < f.at) ⊎ ((g.at ≡ f.at) × (rank g.cause ≤ rank f.cause))

-- the fault with this cause at this place, where the test says that it stands there
abbrev pub Stands : Bool → ℕ → Cause → Fault → Type 0
Stands stands at c f = (stands ≡ true) × (f ≡ record { at = at; cause = c })

-- no fault
abbrev pub Never : Fault → Type 0
Never f = ⊥

-- those of the one and those of the other
abbrev pub Either : (Fault → Type 0) → (Fault → Type 0) → Fault → Type 0
Either P Q f = P f ⊎ Q f
