-- What the calls of a typed program take.
use Rattle.std.specs.Prelude.{◌≡◌, ℕ, List, [], ◌∷◌, length, Bool, true, Option, ℤ}
use Rattle.wy_value.specs.Datum.{Datum, Whole, Array, Data}
use Rattle.wy_core.specs.Types.{Ty}
use Rattle.wy_core.specs.CoreTree.{Routine, Core, aliases_of, routines_of}
use Rattle.wy_types.specs.Names.{names_in}
use Rattle.wy_sound_statements.specs.wy_flow_spec.typing.Programs.{types_of}
use Rattle.wy_sem.specs.Evaluation.{Declared, Print, PrintInt, Undeclared, callee, owed_member}
use Rattle.wy_sound_statements.specs.wy_vc_spec.Numbered.{Node, numbered_routine, numbered_core}
use Rattle.wy_sound_statements.specs.wy_vc_spec.Programs.{program_of, body_conditions}
use Rattle.wy_sound_statements.specs.wy_sound_walks.expressions.Truth.{AreTrueBy}
use Rattle.wy_sound_statements.specs.wy_sound_walks.expressions.Written.{IsWritten}
use Rattle.wy_sound_statements.specs.wy_sound_kinds.Bounded.{AllBounded}
use Rattle.wy_sound_statements.specs.wy_sound_kinds.Ready.{Rules}
use Rattle.wy_sound_statements.specs.wy_sound_kinds.Kinds.{AreIn}
use Rattle.wy_sound_statements.specs.calls.CallLaws.{ArgumentsIn, KeepsContract}
use Rattle.wy_sound_statements.specs.calls.PrintLaws.{AllWhole}
use Rattle.wy_sound_types.specs.members.Laws.{told_by}
use Rattle.wy_sound_types.specs.Laws.{TypesHold}
use Rattle.wy_sound_types.specs.Routines.{TypedContract}
use Rattle.wy_sound_types.specs.sound_routines.Entries.{ParamsApart, ContractIsSafe}
use Rattle.wy_sound_types.specs.sound_routines.Depths.{setting_at, Handled, AllTaken}

-- the routine with numbers: its contract is typed, and its parameters are different variables
pub record RoutineStands (core : Core ℕ) (flow : List Ty) (r : Rules) (n : Routine Node) : Type 0 where
  pub routine : Routine ℕ
  pub before : List Ty
  pub is : n ≡ numbered_routine routine (length before)
  pub typed : TypedContract core flow r routine before
  pub apart : ParamsApart (length routine.variables) routine.params

-- what is asked of arguments that are taken, of each routine and of each body
pub record TakesWell (core : Core ℕ) (flow : List Ty) (members : ℕ → Datum → Bool) (place : Node → ℕ) (limit : Option ℕ) (takes : ℕ → List Datum → Bool) (r : Rules) : Type 0 where
  pub written : (t : Ty) → r.tested t ≡ true → IsWritten t
  pub stands : (f : ℕ) (n : Routine Node) → callee (routines_of (numbered_core core)) f ≡ Declared n → RoutineStands core flow r n
  pub arguments : (f : ℕ) (vs : List Datum) (n : Routine Node) → takes f vs ≡ true → callee (routines_of (numbered_core core)) f ≡ Declared n → (length vs ≡ length n.params) × AllBounded vs × AreIn (names_in core) (types_of n.params) vs
  pub texts : (f : ℕ) (vs : List Datum) → takes f vs ≡ true → callee (routines_of (numbered_core core)) f ≡ Print → (ds : Data) × (vs ≡ Array ds ∷ []) × AllWhole ds
  pub numbers : (f : ℕ) (vs : List Datum) → takes f vs ≡ true → callee (routines_of (numbered_core core)) f ≡ PrintInt → (z : ℤ) × (vs ≡ Whole z ∷ [])
  pub others : (f : ℕ) (vs : List Datum) → takes f vs ≡ true → callee (routines_of (numbered_core core)) f ≡ Undeclared → ⊥
  pub bodies : (f : ℕ) (vs : List Datum) (n : Routine Node) (depth : ℕ) → takes f vs ≡ true → callee (routines_of (numbered_core core)) f ≡ Declared n
      → AreTrueBy members (body_conditions (program_of (numbered_core core) flow) n) → Handled (setting_at place limit (numbered_core core) depth) (program_of (numbered_core core) flow) members takes
      → (ArgumentsIn members n.params vs → ContractIsSafe (setting_at place limit (numbered_core core) depth) members n vs)
      → KeepsContract (setting_at place limit (numbered_core core) depth) (told_by core flow) members (owed_member place limit (aliases_of (numbered_core core))) n vs

-- then each call that is taken is as the law of depths asks
abbrev pub TypedCallsAreTaken : Type 0
TypedCallsAreTaken =
    (core : Core ℕ) (flow : List Ty) (members : ℕ → Datum → Bool) → TypesHold core flow members → (place : Node → ℕ) (limit : Option ℕ) (takes : ℕ → List Datum → Bool) (r : Rules) → TakesWell core flow members place limit takes r
    → AllTaken place limit (numbered_core core) (program_of (numbered_core core) flow) members takes
