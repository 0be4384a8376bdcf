-- Which whole numbers stand in a core as literals.
use Rattle.std.specs.Prelude.{ℕ, ℤ, ◌≤ℤ◌, List, [], ◌∷◌, Option, Some, None}
use Rattle.wy_value.specs.declared.bounds.TheConstants.{INT_MIN, INT_MAX}
use Rattle.wy_core.specs.CoreTree.{Expr, NullExpr, BoolExpr, IntExpr, VarExpr, CallExpr, NegExpr, NotExpr, LenExpr, BinaryExpr, IsExpr, IndexExpr, FieldExpr, ListExpr, RepeatExpr, RecordExpr, QuantExpr, Exprs, NoExprs, MoreExprs, Fields, NoFields, MoreFields, Step, IndexStep, FieldStep, Stmt, Stmts, DeclareStmt, AssignStmt, CallStmt, ReturnStmt, AssertStmt, BreakStmt, ContinueStmt, SkipStmt, FailStmt, IfStmt, WhileStmt, NoStmts, MoreStmts, Routine, Decl, AliasDecl, RoutineDecl, Core}

-- the number is an `int`
pub record IsInt (number : ℤ) : Type 0 where
  pub least : INT_MIN ≤ℤ number
  pub greatest : number ≤ℤ INT_MAX

abbrev mutual
  -- each number of the expression is an `int`
  pub IntsExpr : Expr ℕ → Type 0
  IntsExpr (NullExpr at) = Unit {0}
  IntsExpr (BoolExpr at truth) = Unit {0}
  IntsExpr (IntExpr at number) = IsInt number
  IntsExpr (VarExpr at v) = Unit {0}
  IntsExpr (CallExpr at routine args) = IntsExprs args
  IntsExpr (NegExpr at a) = IntsExpr a
  IntsExpr (NotExpr at a) = IntsExpr a
  IntsExpr (LenExpr at a) = IntsExpr a
  IntsExpr (BinaryExpr at op a b) = IntsExpr a × IntsExpr b
  IntsExpr (IsExpr at a t) = IntsExpr a
  IntsExpr (IndexExpr at a b) = IntsExpr a × IntsExpr b
  IntsExpr (FieldExpr at a name) = IntsExpr a
  IntsExpr (ListExpr at items) = IntsExprs items
  IntsExpr (RepeatExpr at a b) = IntsExpr a × IntsExpr b
  IntsExpr (RecordExpr at fields) = IntsFields fields
  IntsExpr (QuantExpr at all v from to body) = IntsExpr from × IntsExpr to × IntsExpr body

  pub IntsExprs : Exprs ℕ → Type 0
  IntsExprs NoExprs = Unit {0}
  IntsExprs (MoreExprs e rest) = IntsExpr e × IntsExprs rest

  pub IntsFields : Fields ℕ → Type 0
  IntsFields NoFields = Unit {0}
  IntsFields (MoreFields name e rest) = IntsExpr e × IntsFields rest

abbrev pub IntsClauses : List (Expr ℕ) → Type 0
IntsClauses [] = Unit {0}
IntsClauses (e ∷ es) = IntsExpr e × IntsClauses es

abbrev pub IntsOption : Option (Expr ℕ) → Type 0
IntsOption None = Unit {0}
IntsOption (Some e) = IntsExpr e

abbrev pub IntsPath : List (Step ℕ) → Type 0
IntsPath [] = Unit {0}
IntsPath (IndexStep at e ∷ steps) = IntsExpr e × IntsPath steps
IntsPath (FieldStep at name ∷ steps) = IntsPath steps

abbrev mutual
  pub IntsStmt : Stmt ℕ → Type 0
  IntsStmt (DeclareStmt at t v value) = IntsOption value
  IntsStmt (AssignStmt at v path value) = IntsPath path × IntsExpr value
  IntsStmt (CallStmt at routine args) = IntsExprs args
  IntsStmt (ReturnStmt at value) = IntsOption value
  IntsStmt (AssertStmt at test) = IntsExpr test
  IntsStmt (BreakStmt at) = Unit {0}
  IntsStmt (ContinueStmt at) = Unit {0}
  IntsStmt (SkipStmt at) = Unit {0}
  IntsStmt (FailStmt at) = Unit {0}
  IntsStmt (IfStmt at test first second) = IntsExpr test × IntsStmts first × IntsStmts second
  IntsStmt (WhileStmt at test invariants body) = IntsExpr test × IntsClauses invariants × IntsStmts body

  pub IntsStmts : Stmts ℕ → Type 0
  IntsStmts NoStmts = Unit {0}
  IntsStmts (MoreStmts x rest) = IntsStmt x × IntsStmts rest

pub record IntsRoutine (r : Routine ℕ) : Type 0 where
  pub preconditions : IntsClauses r.preconditions
  pub postconditions : IntsClauses r.postconditions
  pub body : IntsStmts r.body

abbrev pub IntsDecl : Decl ℕ → Type 0
IntsDecl (AliasDecl a) = IntsClauses a.clauses
IntsDecl (RoutineDecl r) = IntsRoutine r

-- each literal of a program is an `int`
abbrev pub Ints : Core ℕ → Type 0
Ints [] = Unit {0}
Ints (d ∷ ds) = IntsDecl d × Ints ds
