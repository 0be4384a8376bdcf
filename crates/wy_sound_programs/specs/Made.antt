-- Blocks whose expressions are as a formed program has them.
use Rattle.std.specs.Prelude.{◌≡◌, ℕ, Bool, true, false, List, [], ◌∷◌, Some, None}
use Rattle.wy_core.specs.CoreTree.{Expr, Step, IndexStep, FieldStep, Stmt, DeclareStmt, AssignStmt, CallStmt, ReturnStmt, AssertStmt, BreakStmt, ContinueStmt, SkipStmt, FailStmt, IfStmt, WhileStmt, Stmts, NoStmts, MoreStmts}
use Rattle.wy_sound_statements.specs.wy_sound_kinds.Ready.{count_of, Ready, AllReady}
use Rattle.wy_sound_statements.specs.wy_sound_kinds.fits.Fit.{ClausesReady}
use Rattle.wy_sound_programs.specs.Along.{Allowed}

-- every variable is marked
abbrev pub all_marked : ℕ → Bool
all_marked x = true

-- an expression, but for its variables
abbrev pub WellMade : Allowed → Bool → Expr ℕ → Type 0
WellMade a quiet e = Ready a.rules quiet a.many all_marked e

abbrev pub PathMade : Allowed → List (Step ℕ) → Type 0
PathMade a [] = Unit {0}
PathMade a (IndexStep at e ∷ steps) = WellMade a false e × PathMade a steps
PathMade a (FieldStep at name ∷ steps) = PathMade a steps

abbrev mutual
  -- each expression of a statement
  pub Made : Allowed → Stmt ℕ → Type 0
  Made a (DeclareStmt at t x None) = Unit {0}
  Made a (DeclareStmt at t x (Some e)) = WellMade a false e
  Made a (AssignStmt at x path e) = PathMade a path × WellMade a false e
  Made a (CallStmt at f es) = AllReady a.rules false a.many all_marked es × (a.statements f (count_of es) ≡ true)
  Made a (ReturnStmt at None) = Unit {0}
  Made a (ReturnStmt at (Some e)) = WellMade a false e
  Made a (AssertStmt at e) = WellMade a true e
  Made a (BreakStmt at) = Unit {0}
  Made a (ContinueStmt at) = Unit {0}
  Made a (SkipStmt at) = Unit {0}
  Made a (FailStmt at) = Unit {0}
  Made a (IfStmt at e first second) = WellMade a false e × AllMade a first × AllMade a second
  Made a (WhileStmt at e invariants body) = ClausesReady a.rules a.many all_marked invariants × WellMade a false e × AllMade a body

  pub AllMade : Allowed → Stmts ℕ → Type 0
  AllMade a NoStmts = Unit {0}
  AllMade a (MoreStmts first rest) = Made a first × AllMade a rest
