-- What is said of each whole expression of a program; and the quantifiers in which nothing is called.
use Rattle.std.specs.Prelude.{ℕ, List, [], ◌∷◌, Option, Some, None}
use Rattle.wy_core.specs.CoreTree.{Expr, NullExpr, BoolExpr, IntExpr, VarExpr, CallExpr, NegExpr, NotExpr, LenExpr, BinaryExpr, IsExpr, IndexExpr, FieldExpr, ListExpr, RepeatExpr, RecordExpr, QuantExpr, Exprs, NoExprs, MoreExprs, Fields, NoFields, MoreFields, Step, IndexStep, FieldStep, Stmt, Stmts, DeclareStmt, AssignStmt, CallStmt, ReturnStmt, AssertStmt, BreakStmt, ContinueStmt, SkipStmt, FailStmt, IfStmt, WhileStmt, NoStmts, MoreStmts, Routine, Decl, AliasDecl, RoutineDecl, Core}
use Rattle.wy_core.specs.formed.Calls.{CallsExpr, Nothing}

abbrev mutual
  -- no quantifier of the expression calls anything
  pub IsQuiet : Expr ℕ → Type 0
  IsQuiet (NullExpr at) = Unit {0}
  IsQuiet (BoolExpr at truth) = Unit {0}
  IsQuiet (IntExpr at number) = Unit {0}
  IsQuiet (VarExpr at v) = Unit {0}
  IsQuiet (CallExpr at routine args) = AreQuiet args
  IsQuiet (NegExpr at a) = IsQuiet a
  IsQuiet (NotExpr at a) = IsQuiet a
  IsQuiet (LenExpr at a) = IsQuiet a
  IsQuiet (BinaryExpr at op a b) = IsQuiet a × IsQuiet b
  IsQuiet (IsExpr at a t) = IsQuiet a
  IsQuiet (IndexExpr at a b) = IsQuiet a × IsQuiet b
  IsQuiet (FieldExpr at a name) = IsQuiet a
  IsQuiet (ListExpr at items) = AreQuiet items
  IsQuiet (RepeatExpr at a b) = IsQuiet a × IsQuiet b
  IsQuiet (RecordExpr at fields) = FieldsQuiet fields
  IsQuiet (QuantExpr at all v from to body) = CallsExpr Nothing from × CallsExpr Nothing to × CallsExpr Nothing body

  pub AreQuiet : Exprs ℕ → Type 0
  AreQuiet NoExprs = Unit {0}
  AreQuiet (MoreExprs e rest) = IsQuiet e × AreQuiet rest

  pub FieldsQuiet : Fields ℕ → Type 0
  FieldsQuiet NoFields = Unit {0}
  FieldsQuiet (MoreFields name e rest) = IsQuiet e × FieldsQuiet rest

-- each argument of a call that is a statement
abbrev pub EachArgument : (Expr ℕ → Type 0) → Exprs ℕ → Type 0
EachArgument Q NoExprs = Unit {0}
EachArgument Q (MoreExprs e rest) = Q e × EachArgument Q rest

abbrev pub EachClause : (Expr ℕ → Type 0) → List (Expr ℕ) → Type 0
EachClause Q [] = Unit {0}
EachClause Q (e ∷ es) = Q e × EachClause Q es

abbrev pub EachOption : (Expr ℕ → Type 0) → Option (Expr ℕ) → Type 0
EachOption Q None = Unit {0}
EachOption Q (Some e) = Q e

abbrev pub EachIndex : (Expr ℕ → Type 0) → List (Step ℕ) → Type 0
EachIndex Q [] = Unit {0}
EachIndex Q (IndexStep at e ∷ steps) = Q e × EachIndex Q steps
EachIndex Q (FieldStep at name ∷ steps) = EachIndex Q steps

abbrev mutual
  -- each whole expression of the statement
  pub EachWhole : (Expr ℕ → Type 0) → Stmt ℕ → Type 0
  EachWhole Q (DeclareStmt at t v value) = EachOption Q value
  EachWhole Q (AssignStmt at v path value) = EachIndex Q path × Q value
  EachWhole Q (CallStmt at routine args) = EachArgument Q args
  EachWhole Q (ReturnStmt at value) = EachOption Q value
  EachWhole Q (AssertStmt at test) = Q test
  EachWhole Q (BreakStmt at) = Unit {0}
  EachWhole Q (ContinueStmt at) = Unit {0}
  EachWhole Q (SkipStmt at) = Unit {0}
  EachWhole Q (FailStmt at) = Unit {0}
  EachWhole Q (IfStmt at test first second) = Q test × EachWholeIn Q first × EachWholeIn Q second
  EachWhole Q (WhileStmt at test invariants body) = Q test × EachClause Q invariants × EachWholeIn Q body

  pub EachWholeIn : (Expr ℕ → Type 0) → Stmts ℕ → Type 0
  EachWholeIn Q NoStmts = Unit {0}
  EachWholeIn Q (MoreStmts x rest) = EachWhole Q x × EachWholeIn Q rest

pub record EachOfRoutine (Q : Expr ℕ → Type 0) (r : Routine ℕ) : Type 0 where
  pub preconditions : EachClause Q r.preconditions
  pub postconditions : EachClause Q r.postconditions
  pub body : EachWholeIn Q r.body

abbrev pub EachOfDecl : (Expr ℕ → Type 0) → Decl ℕ → Type 0
EachOfDecl Q (AliasDecl a) = EachClause Q a.clauses
EachOfDecl Q (RoutineDecl r) = EachOfRoutine Q r

-- each whole expression of the program
abbrev pub Wholes : (Expr ℕ → Type 0) → Core ℕ → Type 0
Wholes Q [] = Unit {0}
Wholes Q (d ∷ ds) = EachOfDecl Q d × Wholes Q ds
