-- What the conditions of a program say of membership in its types.
use Rattle.std.specs.Prelude.{◌≡◌, ℕ, List, [], ◌∷◌}
use Rattle.wy_value.specs.Datum.{Datum}
use Rattle.wy_core.specs.Types.{Ty, NamedTy}
use Rattle.wy_core.specs.CoreTree.{Core, aliases_of}
use Rattle.wy_term.specs.Meaning.{Names}
use Rattle.wy_term.specs.Condition.{Entry, Condition, AreUnfolded}
use Rattle.wy_sound_programs.specs.wy_sem.Membership.{is_member}
use Rattle.wy_sound_programs.specs.wy_sound_terms.formed.OwedConditions.{owed_conditions}
use Rattle.wy_sound_programs.specs.wy_sound_kinds.Bounded.{IsBounded}
use Rattle.wy_sound.specs.Sound.{Shown}

-- each listed type has, of the data that a program may hold, exactly those that are in it by the semantics
abbrev pub TellMembers : (ℕ → ℕ) → Core ℕ → Names → List Entry → Type 0
TellMembers place core names [] = Unit {0}
TellMembers place core names (e ∷ es) = ((d : Datum) → IsBounded d → names.is_member e.type_number d ≡ is_member place (aliases_of core) d (NamedTy e.type_number)) × TellMembers place core names es

-- so of each condition, by any names by which a type that it lists has the data of which the type's formula holds
abbrev pub AllTellMembers : (ℕ → ℕ) → Core ℕ → List Condition → Type 0
AllTellMembers place core [] = Unit {0}
AllTellMembers place core (c ∷ cs) = ((names : Names) → AreUnfolded names c.types → TellMembers place core names c.types) × AllTellMembers place core cs

abbrev pub ConditionsTellMembers : Type 0
ConditionsTellMembers = (place : ℕ → ℕ) (core : Core ℕ) (flow : List Ty) → Shown core flow → AllTellMembers place core (owed_conditions core flow)
