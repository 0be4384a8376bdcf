-- What statements keep of a store.
use Rattle.std.specs.Prelude.{◌≡◌, ℕ, Bool, false, ◌||◌, ◌==◌, Option, Some, None}
use Rattle.wy_value.specs.Datum.{Datum}
use Rattle.wy_core.specs.CoreTree.{Stmt, DeclareStmt, AssignStmt, CallStmt, ReturnStmt, AssertStmt, BreakStmt, ContinueStmt, SkipStmt, FailStmt, IfStmt, WhileStmt, Stmts, NoStmts, MoreStmts}
use Rattle.wy_sound_walks.specs.wy_sem.Meter.{Meter, Done}
use Rattle.wy_sound_walks.specs.wy_sem.Expressions.{Store, slot, Setting}
use Rattle.wy_sound_walks.specs.wy_sem.Statements.{Exit, Went, Broke, Continued, Gave, Frame, exec, exec_all}
use Rattle.wy_sound_walks.specs.wy_vc_spec.Numbered.{Node}
use Rattle.wy_sound_walks.specs.wy_vc_spec.Assigned.{assigns, assigns_in}

abbrev mutual
  -- the statement declares the variable without a value
  pub unsets : {N : Type 0} → ℕ → Stmt N → Bool
  unsets x (DeclareStmt at t y None) = y == x
  unsets x (DeclareStmt at t y (Some e)) = false
  unsets x (AssignStmt at y path e) = false
  unsets x (CallStmt at f es) = false
  unsets x (ReturnStmt at value) = false
  unsets x (AssertStmt at e) = false
  unsets x (BreakStmt at) = false
  unsets x (ContinueStmt at) = false
  unsets x (SkipStmt at) = false
  unsets x (FailStmt at) = false
  unsets x (IfStmt at e first second) = unsets_in x first || unsets_in x second
  unsets x (WhileStmt at e invariants body) = unsets_in x body

  pub unsets_in : {N : Type 0} → ℕ → Stmts N → Bool
  unsets_in x NoStmts = false
  unsets_in x (MoreStmts first rest) = unsets x first || unsets_in x rest

-- from the one store to the other, where these variables are assigned and those unset
pub record Keeps (assigned unset : ℕ → Bool) (s t : Store) : Type 0 where
  pub others : (x : ℕ) → assigned x ≡ false → unset x ≡ false → slot t x ≡ slot s x
  pub lasts : (x : ℕ) (d : Datum) → slot s x ≡ Some d → unset x ≡ false → (e : Datum) × (slot t x ≡ Some e)

-- the store at an end, where there is one
abbrev pub AtExit : (Store → Type 0) → Exit → Type 0
AtExit P (Went s) = P s
AtExit P (Broke s) = P s
AtExit P (Continued at s) = P s
AtExit P (Gave v) = Unit {0}

-- so for statements and for blocks, however they end
pub record StatementsKeepOthers : Type 0 where
  pub statement : (w : Setting Node) (fr : Frame Node) (st : Stmt Node) (s : Store) (x : Exit) (m k : Meter) → exec w fr st s m ≡ Done x k → AtExit (Keeps (λ y. assigns y st) (λ y. unsets y st) s) x
  pub block : (w : Setting Node) (fr : Frame Node) (b : Stmts Node) (s : Store) (x : Exit) (m k : Meter) → exec_all w fr b s m ≡ Done x k → AtExit (Keeps (λ y. assigns_in y b) (λ y. unsets_in y b) s) x
