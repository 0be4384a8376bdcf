-- Data of named types that meet the formulas of all types.
use Rattle.std.specs.Prelude.{◌≡◌, ℕ, ◌<◌, ◌≤◌, List, [], ◌∷◌, length, Bool, false}
use Rattle.wy_value.specs.Datum.{Datum}
use Rattle.wy_term.specs.Meaning.{Names}
use Rattle.wy_term.specs.Condition.{Condition, says, HoldsAlways}
use Rattle.wy_sound_statements.specs.wy_vc_spec.Numbered.{Node}
use Rattle.wy_sound_statements.specs.wy_vc_spec.Values.{Setting}
use Rattle.wy_sound_statements.specs.wy_vc_spec.Limits.{unfolded}

-- each type has the data of which its formula holds, by these data for all types; a number that is no type's has none
pub record MeetFormulas (s : Setting Node) (members : ℕ → Datum → Bool) : Type 0 where
  pub told : (b : ℕ) → b < length s.types → (names : Names) → names.is_member ≡ members → (d : Datum) → members b d ≡ says names (unfolded s b) d
  pub others : (b : ℕ) → length s.types ≤ b → (d : Datum) → members b d ≡ false

-- each condition is true, whatever its names stand for
abbrev pub HoldAlways : List Condition → Type 0
HoldAlways [] = Unit {0}
HoldAlways (c ∷ cs) = HoldsAlways c × HoldAlways cs
