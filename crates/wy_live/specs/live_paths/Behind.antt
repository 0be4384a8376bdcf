-- The paths behind each use, and which uses are the last by them: no path from there uses the variable before it assigns it.
use Rattle.std.specs.Prelude.{◌≡◌, ◌⊎◌, ℕ, Bool, true, false, List, [], ◌∷◌, ◌++◌, Option, Some, None}
use Rattle.wy_core.specs.CoreTree as tree
use Rattle.wy_core.specs.CoreTree.{Expr, NullExpr, BoolExpr, IntExpr, VarExpr, CallExpr, NegExpr, NotExpr, LenExpr, BinaryExpr, IsExpr, IndexExpr, FieldExpr, ListExpr, RepeatExpr, RecordExpr, QuantExpr, Exprs, NoExprs, MoreExprs, Fields, NoFields, MoreFields, Step, IndexStep, FieldStep, Stmt, DeclareStmt, AssignStmt, CallStmt, ReturnStmt, AssertStmt, BreakStmt, ContinueStmt, SkipStmt, FailStmt, IfStmt, WhileStmt, Stmts, NoStmts, MoreStmts, Decl, AliasDecl, RoutineDecl, Core}
use Rattle.wy_live.specs.LastUses.{unused, clauses_unused}
use Rattle.wy_live.specs.live_paths.Events.{uses, sets, Path, Paths, uses_first, Then}
use Rattle.wy_live.specs.live_paths.Through.{Right, AnyTurns, Through, ThroughAll, ThroughFields, ThroughSteps, End, falls, breaks, continues, stops, ThroughStmt, ThroughStmts}

-- ---- sets of paths

-- the path ends here
abbrev pub Ended : Paths
Ended es = es ≡ []

-- a variable is assigned, and then one of these
abbrev pub Assigned : ℕ → Paths → Paths
Assigned y after = Then (λ p. p ≡ sets y ∷ []) after

-- a variable is used, and then one of these
abbrev pub Updated : ℕ → Paths → Paths
Updated y after = Then (λ p. p ≡ uses y ∷ []) after

-- of one kind or the other
abbrev pub Either : Paths → Paths → Paths
Either first second es = first es ⊎ second es

-- behind the body of a quantifier: any number of turns more, and then one of these
abbrev pub Turned : ℕ → Expr ℕ → Paths → Paths
Turned y body after = Then (AnyTurns y (Through body)) after

-- behind each way out of a statement
abbrev pub Follow : End → Paths → Paths → Paths → Paths
Follow falls after exit again es = after es
Follow breaks after exit again es = exit es
Follow continues after exit again es = again es
Follow stops after exit again es = Ended es

-- through a statement or a block, and then what follows on its way out
abbrev pub Onward : (Path → End → Type 0) → Paths → Paths → Paths → Paths
Onward through after exit again es = (p : Path) × (q : Path) × (end : End) × (es ≡ p ++ q) × through p end × Follow end after exit again q

-- from the head of a loop on, behind which these follow
abbrev pub Head : Expr ℕ → Stmts ℕ → Paths → Paths
Head e body after = Onward (ThroughStmt (WhileStmt 0 e [] body)) after Ended Ended

-- from behind the test of a loop on
abbrev pub Tested : Expr ℕ → Stmts ℕ → Paths → Paths
Tested e body after = Either (Onward (ThroughStmts body) (Head e body after) after (Head e body after)) after

-- from behind the test of an `if` on
abbrev pub Forked : Stmts ℕ → Stmts ℕ → Paths → Paths → Paths → Paths
Forked first second after exit again = Either (Onward (ThroughStmts first) after exit again) (Onward (ThroughStmts second) after exit again)

-- ---- marks

-- the marks begin with one that is true exactly where none of these paths uses the variable before it assigns it
abbrev pub LastMark : ℕ → Paths → List Bool → List Bool → Type 0
LastMark x after marks rest =
    (last : Bool) × (marks ≡ last ∷ rest) × (last ≡ true → (es : Path) → after es → uses_first x es ≡ false) × (((es : Path) → after es → uses_first x es ≡ false) → last ≡ true)

abbrev mutual
  -- the marks begin with those of the uses in the expression, in order, behind which one of these paths follows; then come the others
  pub ExprLast : Expr ℕ → (Path → Type 0) → List Bool → List Bool → Type 0
  ExprLast (NullExpr at) after marks rest = marks ≡ rest
  ExprLast (BoolExpr at truth) after marks rest = marks ≡ rest
  ExprLast (IntExpr at number) after marks rest = marks ≡ rest
  ExprLast (VarExpr at x) after marks rest = LastMark x after marks rest
  ExprLast (CallExpr at routine args) after marks rest = ExprsLast args after marks rest
  ExprLast (NegExpr at a) after marks rest = ExprLast a after marks rest
  ExprLast (NotExpr at a) after marks rest = ExprLast a after marks rest
  ExprLast (LenExpr at a) after marks rest = ExprLast a after marks rest
  ExprLast (BinaryExpr at o a b) after marks rest = (mid : List Bool) × ExprLast a (Then (Right o (Through b)) after) marks mid × ExprLast b after mid rest
  ExprLast (IsExpr at a ty) after marks rest = ExprLast a after marks rest
  ExprLast (IndexExpr at a b) after marks rest = (mid : List Bool) × ExprLast a (Then (Through b) after) marks mid × ExprLast b after mid rest
  ExprLast (FieldExpr at a name) after marks rest = ExprLast a after marks rest
  ExprLast (ListExpr at items) after marks rest = ExprsLast items after marks rest
  ExprLast (RepeatExpr at a b) after marks rest = (mid : List Bool) × ExprLast a (Then (Through b) after) marks mid × ExprLast b after mid rest
  ExprLast (RecordExpr at fs) after marks rest = FieldsLast fs after marks rest
  ExprLast (QuantExpr at all x a b body) after marks rest =
      (one : List Bool) × (two : List Bool) × ExprLast a (Then (Through b) (Turned x body after)) marks one × ExprLast b (Turned x body after) one two × ExprLast body (Turned x body after) two rest

  pub ExprsLast : Exprs ℕ → (Path → Type 0) → List Bool → List Bool → Type 0
  ExprsLast NoExprs after marks rest = marks ≡ rest
  ExprsLast (MoreExprs e es) after marks rest = (mid : List Bool) × ExprLast e (Then (ThroughAll es) after) marks mid × ExprsLast es after mid rest

  pub FieldsLast : Fields ℕ → (Path → Type 0) → List Bool → List Bool → Type 0
  FieldsLast NoFields after marks rest = marks ≡ rest
  FieldsLast (MoreFields name e fs) after marks rest = (mid : List Bool) × ExprLast e (Then (ThroughFields fs) after) marks mid × FieldsLast fs after mid rest

abbrev pub StepLast : Step ℕ → Paths → List Bool → List Bool → Type 0
StepLast (IndexStep at e) after marks rest = ExprLast e after marks rest
StepLast (FieldStep at name) after marks rest = marks ≡ rest

abbrev pub StepsLast : List (Step ℕ) → Paths → List Bool → List Bool → Type 0
StepsLast [] after marks rest = marks ≡ rest
StepsLast (step ∷ steps) after marks rest = (mid : List Bool) × StepLast step (Then (ThroughSteps steps) after) marks mid × StepsLast steps after mid rest

abbrev pub DeclareLast : ℕ → Option (Expr ℕ) → Paths → List Bool → List Bool → Type 0
DeclareLast x None after marks rest = marks ≡ rest
DeclareLast x (Some e) after marks rest = ExprLast e (Assigned x after) marks rest

abbrev pub AssignLast : ℕ → List (Step ℕ) → Expr ℕ → Paths → List Bool → List Bool → Type 0
AssignLast x [] e after marks rest = ExprLast e (Assigned x after) marks rest
AssignLast x (step ∷ steps) e after marks rest =
    (mid : List Bool) × StepsLast (step ∷ steps) (Then (Through e) (Updated x after)) marks mid × ExprLast e (Updated x after) mid rest

abbrev pub ReturnLast : Option (Expr ℕ) → List Bool → List Bool → Type 0
ReturnLast None marks rest = marks ≡ rest
ReturnLast (Some e) marks rest = ExprLast e Ended marks rest

abbrev mutual
  -- the same of a statement: these paths follow it, those follow the loop around, and those are that loop's next turns
  pub StmtLast : Stmt ℕ → (Path → Type 0) → (Path → Type 0) → (Path → Type 0) → List Bool → List Bool → Type 0
  StmtLast (DeclareStmt at ty x value) after exit again marks rest = DeclareLast x value after marks rest
  StmtLast (AssignStmt at x path e) after exit again marks rest = AssignLast x path e after marks rest
  StmtLast (CallStmt at routine args) after exit again marks rest = ExprsLast args after marks rest
  StmtLast (ReturnStmt at value) after exit again marks rest = ReturnLast value marks rest
  StmtLast (AssertStmt at e) after exit again marks rest = marks ≡ unused e rest
  StmtLast (BreakStmt at) after exit again marks rest = marks ≡ rest
  StmtLast (ContinueStmt at) after exit again marks rest = marks ≡ rest
  StmtLast (SkipStmt at) after exit again marks rest = marks ≡ rest
  StmtLast (FailStmt at) after exit again marks rest = marks ≡ rest
  StmtLast (IfStmt at e first second) after exit again marks rest =
      (one : List Bool) × (two : List Bool) × ExprLast e (Forked first second after exit again) marks one
      × StmtsLast first after exit again one two × StmtsLast second after exit again two rest
  StmtLast (WhileStmt at e invariants body) after exit again marks rest =
      (one : List Bool) × ExprLast e (Tested e body after) marks (clauses_unused invariants one)
      × StmtsLast body (Head e body after) after (Head e body after) one rest

  pub StmtsLast : Stmts ℕ → (Path → Type 0) → (Path → Type 0) → (Path → Type 0) → List Bool → List Bool → Type 0
  StmtsLast NoStmts after exit again marks rest = marks ≡ rest
  StmtsLast (MoreStmts st others) after exit again marks rest =
      (mid : List Bool) × StmtLast st (Onward (ThroughStmts others) after exit again) exit again marks mid × StmtsLast others after exit again mid rest

abbrev pub DeclLast : Decl ℕ → List Bool → List Bool → Type 0
DeclLast (AliasDecl a) marks rest = ExprsLast (tree.exprs_of a.clauses) Ended marks rest
DeclLast (RoutineDecl r) marks rest =
    (mid : List Bool) × (marks ≡ clauses_unused r.preconditions (clauses_unused r.postconditions mid)) × StmtsLast r.body Ended Ended Ended mid rest

abbrev pub DeclsLast : Core ℕ → List Bool → List Bool → Type 0
DeclsLast [] marks rest = marks ≡ rest
DeclsLast (d ∷ ds) marks rest = (mid : List Bool) × DeclLast d marks mid × DeclsLast ds mid rest

-- a mark for each variable in an expression of the program: true for the uses behind which no path uses the variable before it assigns it
abbrev pub AreLastOnPaths : Core ℕ → List Bool → Type 0
AreLastOnPaths core marks = DeclsLast core marks []
