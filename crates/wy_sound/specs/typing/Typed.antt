-- What typing of a whole program finds of each type, function and method.
use Rattle.std.specs.Prelude.{◌≡◌, ℕ, ◌+◌, List, length, Some, slice_get}
use Rattle.wy_core.specs.Types.{Ty}
use Rattle.wy_core.specs.CoreTree.{Routine, Core, aliases_of, routines_of}
use Rattle.wy_sound_programs.specs.wy_types.Names.{names_in}
use Rattle.wy_flow_spec.specs.environment.Variables.{Environment, nothing_known}
use Rattle.wy_flow_spec.specs.typing.Outcomes.{Gives}
use Rattle.wy_flow_spec.specs.typing.States.{State}
use Rattle.wy_flow_spec.specs.typing.Loops.{ClausesTyped}
use Rattle.wy_flow_spec.specs.typing.Statements.{TypedBlock}
use Rattle.wy_flow_spec.specs.typing.Programs as typing
use Rattle.wy_flow_spec.specs.typing.Programs.{program_of, result_type, WithParams, WithResult, IsTyped}
use Rattle.wy_core.specs.formed.Offers.{offers_of}
use Rattle.wy_core.specs.formed.Bound.{Bound, BoundRoutine}
use Rattle.wy_sound_programs.specs.wy_sem.Evaluation.{Declared, callee}
use Rattle.wy_sound_programs.specs.wy_vc_spec.Sizes.{exprs_in_list}
use Rattle.wy_sound_programs.specs.wy_vc_spec.Numbered.{Node, numbered_routine, numbered_core}
use Rattle.wy_sound_programs.specs.wy_sound_kinds.suits.Laws.{Begins}
use Rattle.wy_sound_types.specs.Tests.{HaveVariables}
use Rattle.wy_sound_types.specs.Typed.{AliasesTyped}
use Rattle.wy_sound_types.specs.Routines.{ParamsAmong, ResultAmong}
use Rattle.wy_sound_types.specs.sound_routines.Entries.{ParamsApart}

-- each type of a typed program is typed behind the expressions before it. A type with clauses but without a variable would have expressions with numbers that typing doesn't come to
abbrev pub AliasesAreTyped : Type 0
AliasesAreTyped = (core : Core ℕ) (flow : List Ty) → IsTyped core flow → HaveVariables (aliases_of core) → AliasesTyped core flow

-- the function or method with this number, whose expressions have numbers from those before it on: its contract and its body are typed, one behind the other
pub record TypedRoutine (core : Core ℕ) (flow : List Ty) (f : ℕ) (n : Routine Node) : Type 0 where
  pub routine : Routine ℕ
  pub stands : slice_get (routines_of core) f ≡ Some routine
  pub before : List Ty
  pub is : n ≡ numbered_routine routine (length before)
  -- the parameters, the requires clauses, the result, the ensures clauses, the body
  pub env : Environment
  pub first : List Ty
  pub behind : Environment
  pub second : List Ty
  pub end : State
  pub params : WithParams (names_in core) routine.params nothing_known (Gives env)
  pub preconditions : ClausesTyped (program_of core) env routine.preconditions before (Gives first)
  pub result : WithResult (names_in core) env routine.result (Gives behind)
  pub postconditions : ClausesTyped (program_of core) behind routine.postconditions first (Gives second)
  pub body : TypedBlock (program_of core) (result_type routine.result) routine.body (typing.entry routine env second) (Gives end)
  -- where their expressions stand among those of the program
  pub first_counted : length first ≡ length before + exprs_in_list routine.preconditions
  pub second_counted : length second ≡ length before + exprs_in_list routine.preconditions + exprs_in_list routine.postconditions
  pub contract_begins : Begins second flow
  pub body_begins : Begins end.flow flow
  -- names lead where they should, so parameters and the result are variables of their own, of types that a source may write
  pub bound : BoundRoutine (offers_of core) routine
  pub among : ParamsAmong (length routine.variables) routine.params
  pub result_among : ResultAmong (length routine.variables) routine.result
  pub apart : ParamsApart (length routine.variables) routine.params

-- so of each function and method of a typed program that a number calls
abbrev pub RoutinesAreTyped : Type 0
RoutinesAreTyped =
    (core : Core ℕ) (flow : List Ty) → IsTyped core flow → Bound core → HaveVariables (aliases_of core) → (f : ℕ) (n : Routine Node) → callee (routines_of (numbered_core core)) f ≡ Declared n → TypedRoutine core flow f n
