-- Functions and methods whose variables are each declared once.
use Rattle.std.specs.Prelude.{◌≡◌, ℕ, ◌<◌, List, [], ◌∷◌, length, Option, None, is_some}
use Rattle.wy_core.specs.Types.{Ty}
use Rattle.wy_core.specs.CoreTree.{Param, Routine, Stmt, DeclareStmt, AssignStmt, CallStmt, ReturnStmt, AssertStmt, BreakStmt, ContinueStmt, SkipStmt, FailStmt, IfStmt, WhileStmt, Stmts, NoStmts, MoreStmts}
use Rattle.wy_sound_statements.specs.wy_flow_spec.environment.Slots.{slot_at}
use Rattle.wy_sound_statements.specs.wy_flow_spec.typing.Programs.{declared_params}
use Rattle.wy_sem.specs.Statements.{type_at}
use Rattle.wy_sem.specs.Evaluation.{types_of}
use Rattle.wy_core.specs.formed.Offers.{Offers}
use Rattle.wy_core.specs.formed.Bound.{BoundRoutine}
use Rattle.wy_sound_programs.specs.Scopes.{Scope, declares, declares_in, AllScoped}

abbrev mutual
  -- behind these declarations, no statement declares a variable that was declared
  pub Once : List (Option Ty) → Stmt ℕ → Type 0
  Once slots (DeclareStmt at t x value) = slot_at slots x ≡ None
  Once slots (AssignStmt at x path e) = Unit {0}
  Once slots (CallStmt at f es) = Unit {0}
  Once slots (ReturnStmt at value) = Unit {0}
  Once slots (AssertStmt at e) = Unit {0}
  Once slots (BreakStmt at) = Unit {0}
  Once slots (ContinueStmt at) = Unit {0}
  Once slots (SkipStmt at) = Unit {0}
  Once slots (FailStmt at) = Unit {0}
  Once slots (IfStmt at e first second) = AllOnce slots first × AllOnce (declares_in first slots) second
  Once slots (WhileStmt at e invariants body) = AllOnce slots body

  pub AllOnce : List (Option Ty) → Stmts ℕ → Type 0
  AllOnce slots NoStmts = Unit {0}
  AllOnce slots (MoreStmts first rest) = Once slots first × AllOnce (declares first slots) rest

-- a function or method
abbrev pub OnceRoutine : Routine ℕ → Type 0
OnceRoutine r = AllOnce (declared_params [] r.params) r.body

-- what the body of a function or method stands in
abbrev pub routine_scope : Routine ℕ → Scope
routine_scope r = record { types = types_of r; many = length r.variables; has_result = is_some r.result }

-- parameters are variables of these types
abbrev pub ParamsScoped : Scope → List Param → Type 0
ParamsScoped c [] = Unit {0}
ParamsScoped c (p ∷ ps) = (p.variable < c.many) × (type_at c.types p.variable ≡ p.ty) × ParamsScoped c ps

-- where names lead where they should and each variable is declared once, variables are declared before they are assigned, and have the types that the conditions have for them
pub record RoutinesAreScoped : Type 0 where
  pub body : (o : Offers) (r : Routine ℕ) → BoundRoutine o r → OnceRoutine r → AllScoped (routine_scope r) (declared_params [] r.params) r.body
  pub params : (o : Offers) (r : Routine ℕ) → BoundRoutine o r → OnceRoutine r → ParamsScoped (routine_scope r) r.params
