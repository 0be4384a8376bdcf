-- Typed blocks meet what soundness asks of their run.
use Rattle.std.specs.Prelude.{◌≡◌, ℕ, List, [], length, Bool, true, false, Some, is_some}
use Rattle.wy_value.specs.Datum.{Datum}
use Rattle.wy_core.specs.Types.{Ty}
use Rattle.wy_core.specs.CoreTree as tree
use Rattle.wy_core.specs.CoreTree.{Stmts}
use Rattle.wy_types.specs.Names.{Declared, Up}
use Rattle.wy_sound_statements.specs.wy_flow_spec.environment.Slots.{slot_at}
use Rattle.wy_sound_statements.specs.wy_flow_spec.environment.Variables.{Environment}
use Rattle.wy_sound_statements.specs.wy_flow_spec.typing.Outcomes.{Gives}
use Rattle.wy_sound_statements.specs.wy_flow_spec.typing.Contexts.{Program}
use Rattle.wy_sound_statements.specs.wy_flow_spec.typing.States.{State}
use Rattle.wy_sound_statements.specs.wy_flow_spec.typing.Programs.{result_type}
use Rattle.wy_sound_statements.specs.wy_flow_spec.typing.Statements.{TypedBlock}
use Rattle.wy_sem.specs.Expressions as sem
use Rattle.wy_sem.specs.TypeTests.{Test, is_constrained}
use Rattle.wy_sem.specs.Statements.{type_at}
use Rattle.wy_vc_spec.specs.Numbered.{Node, numbered_block}
use Rattle.wy_vc_spec.specs.Spots.{Spot, is_set}
use Rattle.wy_vc_spec.specs.Statements.{Body}
use Rattle.wy_sound_statements.specs.wy_sound_walks.expressions.Types.{is_in}
use Rattle.wy_sound_statements.specs.wy_sound_walks.expressions.Laws.{AreValTerms}
use Rattle.wy_sound_statements.specs.wy_sound_walks.joins.Points.{IsPoint}
use Rattle.wy_sound_statements.specs.calls.CallLaws.{Checks}
use Rattle.wy_sound_statements.specs.wy_sound_kinds.Bounded.{IsBounded}
use Rattle.wy_sound_statements.specs.wy_sound_kinds.Kinds.{HasValues, HasTypes, AreFor, Rests}
use Rattle.wy_sound_statements.specs.wy_sound_kinds.suits.Laws.{Begins, Asks, TellsNumbers}
use Rattle.wy_sound_statements.specs.StatementSuits.{BlockSuits}
use Rattle.wy_sound_statements.specs.Ends.{AreDeclared, frame_at, code_kinds}
use Rattle.wy_sound_programs.specs.Scopes.{Scope, AllScoped}
use Rattle.wy_sound_programs.specs.Along.{Allowed, in_statements, AllReadyAlong}

-- what the statements of a body are typed and run by
pub record Setting : Type 0 where
  pub program : Program
  pub allowed : Allowed
  pub evaluation : sem.Setting Node
  pub body : Body Node
  pub members : ℕ → Datum → Bool
  pub owed : Ty → Datum → Test
  pub arguments : List Datum
  pub in_expressions : ℕ → List Datum → Bool
  pub by_statements : ℕ → List Datum → Bool
  pub flow : List Ty

abbrev pub scope_of : Setting → Scope
scope_of c = record { types = c.body.types; many = c.allowed.many; has_result = is_some c.body.routine.result }

-- what is known of tests, calls and types: in code and in contracts, tests answer as types say; calls with arguments of their parameters' types are among those that are taken; a value of a declared type is in it by upward reading; and one that is so by upward reading is in it where it isn't asked about
pub record Grounds (c : Setting) : Type 0 where
  pub code : Rests c.program c.allowed.rules c.evaluation true (is_in c.members)
  pub code_asks : Asks c.allowed.rules c.evaluation true (is_in c.members)
  pub contract : Rests c.program c.allowed.rules (sem.quiet c.evaluation) false (is_in c.members)
  pub contract_asks : Asks c.allowed.rules (sem.quiet c.evaluation) false (is_in c.members)
  pub tells : TellsNumbers c.body.program.setting.is_number c.flow
  pub checks : Checks c.body.program.setting c.members c.owed
  pub taken : (f : ℕ) (vs : List Datum) → AreFor c.program c.allowed.rules f vs → c.in_expressions f vs ≡ true
  pub called : (f : ℕ) (vs : List Datum) → AreFor c.program (in_statements c.allowed) f vs → c.by_statements f vs ≡ true
  pub upward : (x : ℕ) (d : Datum) → IsBounded d → is_in c.members (type_at c.body.types x) d ≡ true → Up c.program.names d (type_at c.body.types x) ≡ true
  pub free : (x : ℕ) (d : Datum) → IsBounded d → Up c.program.names d (type_at c.body.types x) ≡ true → is_constrained c.body.program.setting.types (type_at c.body.types x) ≡ false → is_in c.members (type_at c.body.types x) d ≡ true
  pub result_free : (out : tree.Output) (d : Datum) → c.body.routine.result ≡ Some out → IsBounded d → Up c.program.names d out.ty ≡ true → is_constrained c.body.program.setting.types out.ty ≡ false → is_in c.members out.ty d ≡ true

-- the variable has a type at the point of typing
abbrev pub Has : Environment → ℕ → Type 0
Has env x = (t : Ty) × (slot_at env.types x ≡ Some t)

-- a point of the walk at a point of typing that a path gets to: each variable that is marked has a type, and was declared with the type that the conditions have for it; and these variables are marked
pub record Stands (types : List Ty) (kept : ℕ → Bool) (p : Spot) (s : State) : Type 0 where
  pub reached : s.env.reached ≡ true
  pub typed : (x : ℕ) → is_set p.set x ≡ true → Has s.env x
  pub declared : (x : ℕ) → is_set p.set x ≡ true → slot_at s.declared x ≡ Some (type_at types x)
  pub keeps : (x : ℕ) → kept x ≡ true → is_set p.set x ≡ true

-- a store of so many variables: those that are marked have values that a program may hold, which are in their types; and each value is in the declared type of its variable
pub record Holds (names : List Declared) (types : List Ty) (members : ℕ → Datum → Bool) (many : ℕ) (env : Environment) (seen : ℕ → Bool) (st : sem.Store) : Type 0 where
  pub size : length st ≡ many
  pub values : HasValues seen st
  pub typed : HasTypes names env [] seen st
  pub declared : AreDeclared types members st

-- nothing is kept for a loop around
abbrev pub nothing_kept : ℕ → Bool
nothing_kept x = false

abbrev pub TypedBlocksSuit : Type 0
TypedBlocksSuit =
    (c : Setting) → Grounds c → (block : Stmts ℕ) (s out : State) (p : Spot) (m : ℕ) (st : sem.Store)
    → TypedBlock c.program (result_type c.body.routine.result) block s (Gives out) → Begins out.flow c.flow → AllScoped (scope_of c) s.declared block → AllReadyAlong c.allowed c.body [] block (length s.flow) p m
    → AreValTerms p.vars → IsPoint m p → Stands c.body.types nothing_kept p s → Holds c.program.names c.body.types c.members c.allowed.many s.env (is_set p.set) st
    → BlockSuits (code_kinds c.evaluation c.body c.members c.in_expressions) (frame_at c.body c.owed c.arguments) c.body c.members (λ f vs. c.by_statements f vs ≡ true) [] (numbered_block block (length s.flow)) p m st
