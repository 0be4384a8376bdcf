-- Which values are large, and which registers a list of them leaves out.
use Rattle.std.specs.Prelude.{◌≢◌, ℕ, List, [], ◌∷◌, Option, Some, None}
use Rattle.wy_value.specs.Datum.{Datum, Null, Truth, Whole, Array, Record}

-- a list or a record
abbrev pub IsLarge : Datum → Type 0
IsLarge Null = ⊥
IsLarge (Truth b) = ⊥
IsLarge (Whole z) = ⊥
IsLarge (Array ds) = Unit {0}
IsLarge (Record fs) = Unit {0}

-- the register holds one
abbrev pub HoldsLarge : Option Datum → Type 0
HoldsLarge None = ⊥
HoldsLarge (Some v) = IsLarge v

-- the register is none of these
abbrev pub IsNone : ℕ → List ℕ → Type 0
IsNone x [] = Unit {0}
IsNone x (r ∷ rs) = (x ≢ r) × IsNone x rs
