-- Where calls stand. Clauses of types, contracts, invariants and assertions call nothing, and a function calls no method.
use Rattle.std.specs.Prelude.{◌≡◌, ℕ, Bool, true, false, List, [], ◌∷◌, Option, Some, None, slice_get}
use Rattle.wy_core.specs.CoreTree.{Expr, NullExpr, BoolExpr, IntExpr, VarExpr, CallExpr, NegExpr, NotExpr, LenExpr, BinaryExpr, IsExpr, IndexExpr, FieldExpr, ListExpr, RepeatExpr, RecordExpr, QuantExpr, Exprs, NoExprs, MoreExprs, Fields, NoFields, MoreFields, Step, IndexStep, FieldStep, Stmt, Stmts, DeclareStmt, AssignStmt, CallStmt, ReturnStmt, AssertStmt, BreakStmt, ContinueStmt, SkipStmt, FailStmt, IfStmt, WhileStmt, NoStmts, MoreStmts, Routine, Decl, AliasDecl, RoutineDecl, Core}
use Rattle.wy_core.specs.formed.Offers.{Signature, Offers, offers_of}

abbrev mutual
  -- each function or method that the expression calls is one of these
  pub CallsExpr : (ℕ → Type 0) → Expr ℕ → Type 0
  CallsExpr P (NullExpr at) = Unit {0}
  CallsExpr P (BoolExpr at truth) = Unit {0}
  CallsExpr P (IntExpr at number) = Unit {0}
  CallsExpr P (VarExpr at v) = Unit {0}
  CallsExpr P (CallExpr at routine args) = P routine × CallsExprs P args
  CallsExpr P (NegExpr at a) = CallsExpr P a
  CallsExpr P (NotExpr at a) = CallsExpr P a
  CallsExpr P (LenExpr at a) = CallsExpr P a
  CallsExpr P (BinaryExpr at op a b) = CallsExpr P a × CallsExpr P b
  CallsExpr P (IsExpr at a t) = CallsExpr P a
  CallsExpr P (IndexExpr at a b) = CallsExpr P a × CallsExpr P b
  CallsExpr P (FieldExpr at a name) = CallsExpr P a
  CallsExpr P (ListExpr at items) = CallsExprs P items
  CallsExpr P (RepeatExpr at a b) = CallsExpr P a × CallsExpr P b
  CallsExpr P (RecordExpr at fields) = CallsFields P fields
  CallsExpr P (QuantExpr at all v from to body) = CallsExpr P from × CallsExpr P to × CallsExpr P body

  pub CallsExprs : (ℕ → Type 0) → Exprs ℕ → Type 0
  CallsExprs P NoExprs = Unit {0}
  CallsExprs P (MoreExprs e rest) = CallsExpr P e × CallsExprs P rest

  pub CallsFields : (ℕ → Type 0) → Fields ℕ → Type 0
  CallsFields P NoFields = Unit {0}
  CallsFields P (MoreFields name e rest) = CallsExpr P e × CallsFields P rest

abbrev pub CallsClauses : (ℕ → Type 0) → List (Expr ℕ) → Type 0
CallsClauses P [] = Unit {0}
CallsClauses P (e ∷ es) = CallsExpr P e × CallsClauses P es

abbrev pub CallsOption : (ℕ → Type 0) → Option (Expr ℕ) → Type 0
CallsOption P None = Unit {0}
CallsOption P (Some e) = CallsExpr P e

abbrev pub CallsPath : (ℕ → Type 0) → List (Step ℕ) → Type 0
CallsPath P [] = Unit {0}
CallsPath P (IndexStep at e ∷ steps) = CallsExpr P e × CallsPath P steps
CallsPath P (FieldStep at name ∷ steps) = CallsPath P steps

-- no function or method
abbrev pub Nothing : ℕ → Type 0
Nothing routine = ⊥

abbrev mutual
  -- what the statement calls is one of these; assertions and invariants call nothing
  pub CallsStmt : (ℕ → Type 0) → Stmt ℕ → Type 0
  CallsStmt P (DeclareStmt at t v value) = CallsOption P value
  CallsStmt P (AssignStmt at v path value) = CallsPath P path × CallsExpr P value
  CallsStmt P (CallStmt at routine args) = P routine × CallsExprs P args
  CallsStmt P (ReturnStmt at value) = CallsOption P value
  CallsStmt P (AssertStmt at test) = CallsExpr Nothing test
  CallsStmt P (BreakStmt at) = Unit {0}
  CallsStmt P (ContinueStmt at) = Unit {0}
  CallsStmt P (SkipStmt at) = Unit {0}
  CallsStmt P (FailStmt at) = Unit {0}
  CallsStmt P (IfStmt at test first second) = CallsExpr P test × CallsStmts P first × CallsStmts P second
  CallsStmt P (WhileStmt at test invariants body) = CallsExpr P test × CallsClauses Nothing invariants × CallsStmts P body

  pub CallsStmts : (ℕ → Type 0) → Stmts ℕ → Type 0
  CallsStmts P NoStmts = Unit {0}
  CallsStmts P (MoreStmts x rest) = CallsStmt P x × CallsStmts P rest

-- the number is of no method
abbrev pub IsNoMethod : Offers → ℕ → Type 0
IsNoMethod o routine = (s : Signature) → slice_get o.routines routine ≡ Some s → s.is_method ≡ false

-- what the body of a method may call, and that of a function
abbrev pub MayCall : Offers → Bool → ℕ → Type 0
MayCall o true routine = Unit {0}
MayCall o false routine = IsNoMethod o routine

-- a function or method, whose contract calls nothing
pub record CallsRoutine (o : Offers) (r : Routine ℕ) : Type 0 where
  pub preconditions : CallsClauses Nothing r.preconditions
  pub postconditions : CallsClauses Nothing r.postconditions
  pub body : CallsStmts (MayCall o r.is_method) r.body

abbrev pub CallsDecl : Offers → Decl ℕ → Type 0
CallsDecl o (AliasDecl a) = CallsClauses Nothing a.clauses
CallsDecl o (RoutineDecl r) = CallsRoutine o r

abbrev pub CallsDecls : Offers → List (Decl ℕ) → Type 0
CallsDecls o [] = Unit {0}
CallsDecls o (d ∷ ds) = CallsDecl o d × CallsDecls o ds

-- a program, by what it offers itself
abbrev pub Calls : Core ℕ → Type 0
Calls core = CallsDecls (offers_of core) core
