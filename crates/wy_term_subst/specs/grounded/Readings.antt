-- What a reading of `in` is, in a list of named types.
use Rattle.std.specs.Prelude.{◌≡◌, ℕ, List, [], ◌∷◌, Bool, true}
use Rattle.wy_term.specs.wy_value.Datum.{Datum}
use Rattle.wy_term.specs.Meaning.{Names, sense}
use Rattle.wy_term.specs.Condition.{Entry, Condition, AllTrue, AreUnfolded}
use Rattle.wy_term.specs.Unfolding.{IsUnlisted}

-- the same names, where named types stand for these sets of data
abbrev pub with_members : Names → (ℕ → Datum → Bool) → Names
with_members names members = record { datum_of = names.datum_of; number_of = names.number_of; is_member = members }

-- sets of data that meet the listed types' formulas; a type that isn't listed keeps the set that it has
pub record IsReading (types : List Entry) (names : Names) (members : ℕ → Datum → Bool) : Type 0 where
  pub meets : AreUnfolded (with_members names members) types
  pub keeps : (n : ℕ) → IsUnlisted n types → (d : Datum) → members n d ≡ names.is_member n d

-- each listed type is the same set of data
abbrev pub AlikeOn : List Entry → Names → Names → Type 0
AlikeOn [] names others = Unit {0}
AlikeOn (e ∷ es) names others = ((d : Datum) → names.is_member e.type_number d ≡ others.is_member e.type_number d) × AlikeOn es names others

-- if all hypotheses hold then the goal holds
abbrev pub HoldsAt : Names → Condition → Type 0
HoldsAt names c = AllTrue names c.hyps → (sense names c.goal).truth ≡ true

-- whatever its names stand for, there is a reading by which the condition holds
abbrev pub HoldsByReadings : Condition → Type 0
HoldsByReadings c = (names : Names) → (members : ℕ → Datum → Bool) × IsReading c.types names members × HoldsAt (with_members names members) c
