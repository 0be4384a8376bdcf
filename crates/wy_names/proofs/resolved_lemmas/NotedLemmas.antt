-- Where no fault is left, none was noted.
use Rattle.std.proofs.Common.{◌≡◌, ℕ, Bool, true, false, Some, None, refl, if◌then◌else◌}
use Rattle.wy_names_scope.specs.declared.fault.Cause.{Cause}
use Rattle.wy_names_scope.specs.Faults.{Found, goes_before, noted, noted_where}

-- a fault that is noted leaves one
pub none_noted : (found : Found) (at : ℕ) (c : Cause) → noted found at c ≡ None → ⊥
none_noted None at c h = absurd (cc)
none_noted (Some f) at c h = by (goes_before at c f) h
  where
    by : (b : Bool) → (if b then Some (record { at = at; cause = c }) else Some f) ≡ None → ⊥
    by true k = absurd (cc)
    by false k = absurd (cc)

-- no fault before, and none there
pub noted_none : (b : Bool) (found : Found) (at : ℕ) (c : Cause) → noted_where b found at c ≡ None → (found ≡ None) × (b ≡ false)
noted_none true found at c h = absurd (none_noted found at c h)
noted_none false found at c h = (h, refl)
