-- The declared types behind statements; and statements whose variables are declared once, before they are assigned, and have the types that the conditions have for them.
use Rattle.std.specs.Prelude.{◌≡◌, ℕ, ◌<◌, Bool, List, Option, Some, None, is_some}
use Rattle.wy_core.specs.Types.{Ty}
use Rattle.wy_core.specs.CoreTree.{Stmt, DeclareStmt, AssignStmt, CallStmt, ReturnStmt, AssertStmt, BreakStmt, ContinueStmt, SkipStmt, FailStmt, IfStmt, WhileStmt, Stmts, NoStmts, MoreStmts}
use Rattle.wy_sound_statements.specs.wy_flow_spec.environment.Slots.{slot_at, put_slot}
use Rattle.wy_sem.specs.Statements.{type_at}

abbrev mutual
  -- behind a statement, where these stand before it: a variable stays declared behind the block that declares it
  pub declares : Stmt ℕ → List (Option Ty) → List (Option Ty)
  declares (DeclareStmt at t x value) slots = put_slot slots x t
  declares (AssignStmt at x path e) slots = slots
  declares (CallStmt at f es) slots = slots
  declares (ReturnStmt at value) slots = slots
  declares (AssertStmt at e) slots = slots
  declares (BreakStmt at) slots = slots
  declares (ContinueStmt at) slots = slots
  declares (SkipStmt at) slots = slots
  declares (FailStmt at) slots = slots
  declares (IfStmt at e first second) slots = declares_in second (declares_in first slots)
  declares (WhileStmt at e invariants body) slots = declares_in body slots

  pub declares_in : Stmts ℕ → List (Option Ty) → List (Option Ty)
  declares_in NoStmts slots = slots
  declares_in (MoreStmts first rest) slots = declares_in rest (declares first slots)

-- what the statements of a body stand in: the types that the conditions have for variables, how many variables there are, and whether there is a result
pub record Scope : Type 0 where
  pub types : List Ty
  pub many : ℕ
  pub has_result : Bool

abbrev mutual
  -- a statement behind these declarations: what it declares wasn't declared before, what it assigns was, and a result is returned where there is one
  pub Scoped : Scope → List (Option Ty) → Stmt ℕ → Type 0
  Scoped c slots (DeclareStmt at t x value) = (x < c.many) × (slot_at slots x ≡ None) × (type_at c.types x ≡ t)
  Scoped c slots (AssignStmt at x path e) = (x < c.many) × (slot_at slots x ≡ Some (type_at c.types x))
  Scoped c slots (CallStmt at f es) = Unit {0}
  Scoped c slots (ReturnStmt at value) = is_some value ≡ c.has_result
  Scoped c slots (AssertStmt at e) = Unit {0}
  Scoped c slots (BreakStmt at) = Unit {0}
  Scoped c slots (ContinueStmt at) = Unit {0}
  Scoped c slots (SkipStmt at) = Unit {0}
  Scoped c slots (FailStmt at) = Unit {0}
  Scoped c slots (IfStmt at e first second) = AllScoped c slots first × AllScoped c (declares_in first slots) second
  Scoped c slots (WhileStmt at e invariants body) = AllScoped c slots body

  pub AllScoped : Scope → List (Option Ty) → Stmts ℕ → Type 0
  AllScoped c slots NoStmts = Unit {0}
  AllScoped c slots (MoreStmts first rest) = Scoped c slots first × AllScoped c (declares first slots) rest
