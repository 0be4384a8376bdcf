-- The laws of tests of types, and of types by their readings.
use Rattle.std.specs.Prelude.{◌≡◌, ℕ, List, Bool, true, false, Option, Some, slice_get}
use Rattle.wy_value.specs.Datum.{Datum}
use Rattle.wy_core.specs.Types.{Ty}
use Rattle.wy_core.specs.CoreTree.{Core}
use Rattle.wy_core.specs.formed.Bound.{Bound}
use Rattle.wy_core.specs.formed.Recursion.{Recursion}
use Rattle.wy_types.specs.Names.{names_in, Up, Down}
use Rattle.wy_sound_statements.specs.wy_flow_spec.typing.Contexts.{Program}
use Rattle.wy_sound_statements.specs.wy_flow_spec.typing.Programs as typing
use Rattle.wy_sem.specs.Meter.{Meter, Done}
use Rattle.wy_sem.specs.Expressions as sem
use Rattle.wy_sem.specs.TypeTests.{alias_at, is_constrained, tests, member}
use Rattle.wy_sem.specs.Membership.{is_member}
use Rattle.wy_sem.specs.Evaluation.{owed_member}
use Rattle.wy_sound_statements.specs.wy_vc_spec.Numbered.{Node}
use Rattle.wy_sound_statements.specs.wy_vc_spec.Programs.{conditions_of}
use Rattle.wy_sound_statements.specs.wy_sound_walks.expressions.Truth.{AreTrueBy}
use Rattle.wy_sound_statements.specs.wy_sound_walks.expressions.Types.{is_in}
use Rattle.wy_sound_statements.specs.wy_sound_walks.expressions.Written.{IsWritten}
use Rattle.wy_sound_statements.specs.wy_sound_kinds.Bounded.{IsBounded}
use Rattle.wy_sound_statements.specs.wy_sound_kinds.Ready.{Rules}
use Rattle.wy_sound_statements.specs.wy_sound_kinds.Kinds.{AreFor, IsResult, Rests}
use Rattle.wy_sound_statements.specs.wy_sound_kinds.suits.Laws.{Asks}
use Rattle.wy_sound_statements.specs.calls.CallLaws.{Checks}
use Rattle.wy_sound_types.specs.members.Members.{MeetFormulas}
use Rattle.wy_sound_types.specs.members.Laws.{told_by}
use Rattle.wy_sound_types.specs.Tests.{TestsTell, HaveVariables, AllQuiet, AliasesMeet}

-- what is asked of a program and of data for its types: they meet the formulas, types have variables exactly where they have clauses, and clauses of types call nothing
pub record TypesMeet (core : Core ℕ) (flow : List Ty) (members : ℕ → Datum → Bool) : Type 0 where
  pub bound : Bound core
  pub recursion : Recursion core
  pub meet : MeetFormulas (told_by core flow) members
  pub variables : HaveVariables (told_by core flow).types
  pub quiet : (b : ℕ) → AllQuiet (alias_at (told_by core flow).types b).clauses

-- besides, the conditions are true by them, and what the clauses of types meet is of the kinds that they ask for
pub record TypesHold (core : Core ℕ) (flow : List Ty) (members : ℕ → Datum → Bool) : Type 0 where
  pub types : TypesMeet core flow members
  pub conditions : AreTrueBy members (conditions_of core flow)
  pub clauses : AliasesMeet (told_by core flow) members

-- tests of types are no faults, and answer as types say: `is` tests in code and in contracts, so many clauses deep, and what contracts ask of values
pub record TestsAreRight : Type 0 where
  pub tests : (core : Core ℕ) (flow : List Ty) (members : ℕ → Datum → Bool) → TypesHold core flow members
      → (place : Node → ℕ) (limit : Option ℕ) (depth : ℕ) (paid : Bool) → TestsTell members (tests place limit (told_by core flow).types depth paid)
  pub member : (core : Core ℕ) (flow : List Ty) (members : ℕ → Datum → Bool) → TypesHold core flow members
      → (place : Node → ℕ) (limit : Option ℕ) → TestsTell members (member place limit (told_by core flow).types)

-- the checks of types that calls, variables and results make are as the laws of these ask
abbrev pub ChecksAreRight : Type 0
ChecksAreRight = (core : Core ℕ) (flow : List Ty) (members : ℕ → Datum → Bool) → TypesHold core flow members → (place : Node → ℕ) (limit : Option ℕ)
    → Checks (told_by core flow) members (owed_member place limit (told_by core flow).types)

-- ---- types by their readings

-- calls with arguments of their parameters' types give values of their results' types
abbrev pub Gives : Program → Rules → sem.Setting Node → Type 0
Gives p r w = (f at : ℕ) (vs : List Datum) (d : Datum) (m k : Meter) → AreFor p r f vs → w.call f at vs m ≡ Done (Some d) k → IsBounded d × IsResult p.names (slice_get p.signatures f) d

-- what types say by these data lies between the readings that typing goes by, and is both where no type with clauses is reached; so typed expressions may rest on tests that answer so
pub record TypesAreRead : Type 0 where
  pub rests : (core : Core ℕ) (flow : List Ty) (members : ℕ → Datum → Bool) → TypesMeet core flow members → (r : Rules) → ((t : Ty) → r.tested t ≡ true → IsWritten t)
      → (w : sem.Setting Node) (paid : Bool) → TestsTell members (w.test paid) → Gives (typing.program_of core) r w → Rests (typing.program_of core) r w paid (is_in members)
  pub asks : (core : Core ℕ) (flow : List Ty) (members : ℕ → Datum → Bool) → TypesMeet core flow members → (r : Rules) → ((t : Ty) → r.tested t ≡ true → IsWritten t)
      → (w : sem.Setting Node) (paid : Bool) → TestsTell members (w.test paid) → Asks r w paid (is_in members)
  pub upward : (core : Core ℕ) (flow : List Ty) (members : ℕ → Datum → Bool) → TypesMeet core flow members → (t : Ty) → IsWritten t → (d : Datum) → IsBounded d → is_in members t d ≡ true → Up (names_in core) d t ≡ true
  pub downward : (core : Core ℕ) (flow : List Ty) (members : ℕ → Datum → Bool) → TypesMeet core flow members → (t : Ty) → IsWritten t → (d : Datum) → IsBounded d → Down (names_in core) d t ≡ true → is_in members t d ≡ true
  pub free : (core : Core ℕ) (flow : List Ty) (members : ℕ → Datum → Bool) → TypesMeet core flow members → (t : Ty) → IsWritten t → is_constrained (told_by core flow).types t ≡ false
      → (d : Datum) → IsBounded d → Up (names_in core) d t ≡ true → is_in members t d ≡ true

-- ---- membership

-- membership by evaluation is what types say by these data, of data that a program may hold
abbrev pub MembershipIsSaid : Type 0
MembershipIsSaid =
    (core : Core ℕ) (flow : List Ty) (members : ℕ → Datum → Bool) → TypesHold core flow members
    → (place : Node → ℕ) (t : Ty) (d : Datum) → IsBounded d → is_member place (told_by core flow).types d t ≡ is_in members t d
