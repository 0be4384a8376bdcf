-- Faults noted one after the other leave the one that goes before all others.
use Rattle.std.specs.Prelude.{◌≡◌, ℕ, false, List, [], ◌∷◌, Option, Some, None, slice_get}
use Rattle.wy_names_scope.specs.declared.fault.Fault.{Fault}
use Rattle.wy_names_scope.specs.Faults.{Found, goes_before, noted}

-- with these faults noted
abbrev pub all_noted : Found → List Fault → Found
all_noted found [] = found
all_noted found (f ∷ fs) = all_noted (noted found f.at f.cause) fs

-- f is one of the faults, and none of them goes before it
pub record IsLeast (fs : List Fault) (f : Fault) : Type 0 where
  pub place : ℕ
  pub there : slice_get fs place ≡ Some f
  pub least : (i : ℕ) (g : Fault) → slice_get fs i ≡ Some g → goes_before g.at g.cause f ≡ false

-- f is the least of the faults, and there is none where they are none
abbrev pub Gives : List Fault → Found → Type 0
Gives fs None = fs ≡ []
Gives fs (Some f) = IsLeast fs f
