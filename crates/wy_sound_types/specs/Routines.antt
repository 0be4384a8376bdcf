-- The contracts of functions and methods, as typing finds them.
use Rattle.std.specs.Prelude.{◌≡◌, ◌<◌, ℕ, List, [], ◌∷◌, length, Bool, true, false, Option, Some, None}
use Rattle.wy_value.specs.Datum.{Datum}
use Rattle.wy_core.specs.Types.{Ty}
use Rattle.wy_core.specs.CoreTree as tree
use Rattle.wy_core.specs.CoreTree.{Param, Routine, Core}
use Rattle.wy_types.specs.Names.{names_in}
use Rattle.wy_sound_statements.specs.wy_flow_spec.environment.Variables.{Environment, nothing_known}
use Rattle.wy_sound_statements.specs.wy_flow_spec.typing.Outcomes.{Gives}
use Rattle.wy_sound_statements.specs.wy_flow_spec.typing.Loops.{ClausesTyped}
use Rattle.wy_sound_statements.specs.wy_flow_spec.typing.Programs.{program_of, types_of, WithParams, WithResult}
use Rattle.wy_sem.specs.Expressions as sem
use Rattle.wy_sound_statements.specs.wy_vc_spec.Numbered.{Node, numbered_routine}
use Rattle.wy_sound_statements.specs.wy_sound_walks.expressions.Written.{IsWritten}
use Rattle.wy_sound_statements.specs.wy_sound_kinds.Bounded.{AllBounded}
use Rattle.wy_sound_statements.specs.wy_sound_kinds.Ready.{Rules}
use Rattle.wy_sound_statements.specs.wy_sound_kinds.Kinds.{AreIn}
use Rattle.wy_sound_statements.specs.wy_sound_kinds.suits.Laws.{Begins}
use Rattle.wy_sound_statements.specs.wy_sound_kinds.fits.Fit.{ClausesReady}
use Rattle.wy_sound_statements.specs.calls.CallLaws.{with_params, nothing_seen, also_if, ArgumentsFit, ClausesFit}
use Rattle.wy_sound_types.specs.members.Laws.{told_by}
use Rattle.wy_sound_types.specs.Tests.{TestsTell}
use Rattle.wy_sound_types.specs.Laws.{TypesMeet}

-- each parameter is one of the variables, of a type that a source may write
abbrev pub ParamsAmong : ℕ → List Param → Type 0
ParamsAmong n [] = Unit {0}
ParamsAmong n (p ∷ ps) = (p.variable < n) × IsWritten p.ty × ParamsAmong n ps

-- so is a result, if there is one, and its variable, if it has one
abbrev pub ResultAmong : ℕ → Option tree.Output → Type 0
ResultAmong n None = Unit {0}
ResultAmong n (Some out) = IsWritten out.ty × ((x : ℕ) → out.variable ≡ Some x → x < n)

abbrev pub with_result : Option tree.Output → (ℕ → Bool) → ℕ → Bool
with_result None seen = seen
with_result (Some out) seen = also_if out.variable seen

-- the contract is typed behind the expressions before it, and has numbers from theirs on; its clauses call nothing and use parameters and the result alone
pub record TypedContract (core : Core ℕ) (flow : List Ty) (r : Rules) (routine : Routine ℕ) (before : List Ty) : Type 0 where
  pub entry : Environment
  pub first : List Ty
  pub behind : Environment
  pub second : List Ty
  pub params : WithParams (names_in core) routine.params nothing_known (Gives entry)
  pub preconditions : ClausesTyped (program_of core) entry routine.preconditions before (Gives first)
  pub result : WithResult (names_in core) entry routine.result (Gives behind)
  pub postconditions : ClausesTyped (program_of core) behind routine.postconditions first (Gives second)
  pub begins : Begins second flow
  pub among : ParamsAmong (length routine.variables) routine.params
  pub result_among : ResultAmong (length routine.variables) routine.result
  pub first_ready : ClausesReady r (length routine.variables) (with_params routine.params nothing_seen) routine.preconditions
  pub last_ready : ClausesReady r (length routine.variables) (with_result routine.result (with_params routine.params nothing_seen)) routine.postconditions

-- arguments in their parameters' types, by the upward readings, fit; and so do the clauses at the entry and with each result of the result's type, where tests in contracts answer as types say
pub record ContractsFit : Type 0 where
  pub arguments : (core : Core ℕ) (flow : List Ty) (members : ℕ → Datum → Bool) → TypesMeet core flow members → (n : ℕ) (ps : List Param) (vs : List Datum) → length vs ≡ length ps → ParamsAmong n ps → AllBounded vs
      → AreIn (names_in core) (types_of ps) vs → ArgumentsFit (told_by core flow) members ps vs
  pub clauses : (core : Core ℕ) (flow : List Ty) (members : ℕ → Datum → Bool) → TypesMeet core flow members → (r : Rules) → ((t : Ty) → r.tested t ≡ true → IsWritten t)
      → (w : sem.Setting Node) → TestsTell members (w.test false) → (routine : Routine ℕ) (before : List Ty) → TypedContract core flow r routine before
      → (vs : List Datum) → length vs ≡ length routine.params → AllBounded vs → AreIn (names_in core) (types_of routine.params) vs
      → ClausesFit w (told_by core flow) members (numbered_routine routine (length before)) vs
