-- The law of contract soundness: a program whose conditions are true never faults, and what it returns meets its contract.
use Rattle.std.specs.Prelude.{◌≡◌, ℕ, List, true, Option, Some, None}
use Rattle.wy_value.specs.Datum.{Datum}
use Rattle.wy_core.specs.Types.{Ty, NamedTy}
use Rattle.wy_core.specs.CoreTree.{Output, Routine, Core, aliases_of, routines_of}
use Rattle.wy_core.specs.formed.Formed.{Formed}
use Rattle.wy_flow_spec.specs.typing.Programs.{IsTyped}
use Rattle.wy_assign.specs.Assigned.{IsAssigned}
use Rattle.wy_term.specs.Meaning.{Names}
use Rattle.wy_sound_programs.specs.wy_sem.Meter.{Outcome, Done, Fault, More, Spent}
use Rattle.wy_sound_programs.specs.wy_sem.TypeTests.{set_if, clause_setting}
use Rattle.wy_sound_programs.specs.wy_sem.Membership.{is_member}
use Rattle.wy_sound_programs.specs.wy_sem.Precondition.{AreTrue, Meets}
use Rattle.wy_sound_programs.specs.wy_sem.Evaluation.{Declared, callee, entry_of, evaluate}
use Rattle.wy_sound_programs.specs.wy_sound_terms.formed.OwedConditions.{owed_conditions}
use Rattle.wy_sound_types.specs.wy_vc_laws.shown.Certified.{AllHold}
use Rattle.wy_sound_programs.specs.wy_sound_kinds.Bounded.{IsBounded, AllBounded}
use Rattle.wy_sound_types.specs.members.Members.{MeetFormulas}
use Rattle.wy_sound_types.specs.members.Laws.{told_by}
use Rattle.wy_sound.specs.typing.Sources.{Sourced}

-- a program of which nothing is left to show
pub record Shown (core : Core ℕ) (flow : List Ty) : Type 0 where
  -- it is as every pass behind name resolution may take it to be, well typed with these types of its expressions, and each variable is assigned before its uses
  pub formed : Formed core
  pub typed : IsTyped core flow
  pub assigned : IsAssigned core
  -- each type has a variable exactly where it has clauses, and each variable of a function or method is declared once, as in each core that names give
  pub sourced : Sourced core
  -- every condition that it owes is true, whatever its names stand for
  pub holds : AllHold (owed_conditions core flow)

-- ---- runs

-- what a function or method with this result gives on these arguments: a value that is in the result's type, by the semantics, and of which each ensures clause evaluates to true, where the parameters have the arguments; or nothing, where it has no result
abbrev pub IsReturned : (ℕ → ℕ) → Core ℕ → Routine ℕ → List Datum → Option Output → Option Datum → Type 0
IsReturned place core r vs None v = (v ≡ None) × AreTrue (clause_setting place None (aliases_of core)) r.postconditions (entry_of r vs)
IsReturned place core r vs (Some out) None = ⊥
IsReturned place core r vs (Some out) (Some d) =
    IsBounded d × (is_member place (aliases_of core) d out.ty ≡ true) × AreTrue (clause_setting place None (aliases_of core)) r.postconditions (set_if (entry_of r vs) out.variable (Some d))

-- an evaluation that is no fault, and whose answer, where it has one, is so
abbrev pub IsSound : (Option Datum → Type 0) → Outcome (Option Datum) → Type 0
IsSound Is (Done v m) = Is v
IsSound Is (Fault kind at m) = ⊥
IsSound Is (More m) = Unit {0}
IsSound Is Spent = Unit {0}

-- whatever function or method is declared, and whatever data that a program may hold meet it, as many as it has parameters, each in its type and all requires clauses true: at no number of ticks is the evaluation a fault, and what it gives is as the declaration says
abbrev pub ProgramsAreSound : Type 0
ProgramsAreSound =
    (place : ℕ → ℕ) (core : Core ℕ) (flow : List Ty) → Shown core flow → (f : ℕ) (r : Routine ℕ) (vs : List Datum) → callee (routines_of core) f ≡ Declared r → AllBounded vs → Meets place core f vs
    → (ticks : ℕ) → IsSound (IsReturned place core r vs r.result) (evaluate place core f vs ticks)

-- ---- membership

-- names by which each named type has the data of which its formula holds: of data that a program may hold, what is in the type by the names is in it by the semantics
abbrev pub MembershipAgrees : Type 0
MembershipAgrees =
    (place : ℕ → ℕ) (core : Core ℕ) (flow : List Ty) → Shown core flow → (names : Names) → MeetFormulas (told_by core flow) names.is_member
    → (n : ℕ) (d : Datum) → IsBounded d → names.is_member n d ≡ is_member place (aliases_of core) d (NamedTy n)
