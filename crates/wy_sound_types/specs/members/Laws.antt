-- The laws of data that meet the formulas of all types.
use Rattle.std.specs.Prelude.{◌≡◌, ℕ, List, Bool}
use Rattle.wy_value.specs.Datum.{Datum}
use Rattle.wy_core.specs.Types.{Ty}
use Rattle.wy_core.specs.CoreTree.{Core}
use Rattle.wy_core.specs.formed.Bound.{Bound}
use Rattle.wy_core.specs.formed.Recursion.{Recursion}
use Rattle.wy_sem.specs.TypeTests.{alias_at}
use Rattle.wy_sound_statements.specs.wy_vc_spec.Numbered.{Node, numbered_core}
use Rattle.wy_sound_statements.specs.wy_vc_spec.Values.{Setting, named_in}
use Rattle.wy_sound_statements.specs.wy_vc_spec.Programs.{setting_of, conditions_of}
use Rattle.wy_vc_laws.specs.wy_sound_terms.formed.OwedConditions.{owed_conditions}
use Rattle.wy_sound_statements.specs.wy_sound_walks.expressions.Truth.{AreTrueBy}
use Rattle.wy_sound_statements.specs.wy_sound_walks.expressions.Laws.{NamesTold}
use Rattle.wy_sound_types.specs.members.Denotations.{is_defined}
use Rattle.wy_sound_types.specs.members.Members.{MeetFormulas, HoldAlways}

-- what the conditions of a program rest on
abbrev pub told_by : Core ℕ → List Ty → Setting Node
told_by core flow = setting_of (numbered_core core) flow

-- of programs whose names lead where they should, and whose types recur through records or arrays
abbrev pub SomeMembersMeet : Type 0
SomeMembersMeet = (core : Core ℕ) (flow : List Ty) → Bound core → Recursion core → (members : ℕ → Datum → Bool) × MeetFormulas (told_by core flow) members

-- conditions that are true whatever named types stand for, as long as these meet their formulas, are true by data that meet the formulas of all types
abbrev pub ConditionsAreTrueBy : Type 0
ConditionsAreTrueBy =
    (core : Core ℕ) (flow : List Ty) (members : ℕ → Datum → Bool) → MeetFormulas (told_by core flow) members → HoldAlways (owed_conditions core flow) → AreTrueBy members (conditions_of core flow)

-- what formulas say of named types, written out or not, is true exactly of these data; and a type has the data in its definition of which its clauses are true
pub record MembersAreTold : Type 0 where
  pub names : (core : Core ℕ) (flow : List Ty) (members : ℕ → Datum → Bool) → Bound core → Recursion core → MeetFormulas (told_by core flow) members → NamesTold members (named_in (told_by core flow))
  pub defined : (core : Core ℕ) (flow : List Ty) (members : ℕ → Datum → Bool) → Bound core → Recursion core → MeetFormulas (told_by core flow) members
      → (b : ℕ) (d : Datum) → members b d ≡ is_defined members (told_by core flow).is_number (alias_at (told_by core flow).types b) d
