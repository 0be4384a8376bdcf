-- Which uses of variables are the last ones: no path from there uses the variable before it assigns it.
use Rattle.std.specs.Prelude.{◌≡◌, ◌⊎◌, ℕ, Bool, true, false, ◌==◌, List, [], ◌∷◌, Option, Some, None}
use Rattle.wy_core.specs.CoreTree as tree
use Rattle.wy_core.specs.CoreTree.{Expr, NullExpr, BoolExpr, IntExpr, VarExpr, CallExpr, NegExpr, NotExpr, LenExpr, BinaryExpr, IsExpr, IndexExpr, FieldExpr, ListExpr, RepeatExpr, RecordExpr, QuantExpr, Exprs, NoExprs, MoreExprs, Fields, NoFields, MoreFields, Step, IndexStep, FieldStep, Stmt, DeclareStmt, AssignStmt, CallStmt, ReturnStmt, AssertStmt, BreakStmt, ContinueStmt, SkipStmt, FailStmt, IfStmt, WhileStmt, Stmts, NoStmts, MoreStmts, Decl, AliasDecl, RoutineDecl, Core}
use Rattle.wy_live.specs.Paths.{occurs, any_occurs, any_field_occurs, any_step_occurs, Used, IsLive, AreLive}

-- which variables some path from a point on uses before it assigns them
abbrev pub Later : Type 1
Later = ℕ → Type 0

-- these uses, and then what follows
abbrev pub then_later : (ℕ → Bool) → Later → Later
then_later used after x = Used (used x) (after x)

-- a variable is assigned, and then what follows
abbrev pub assigned_later : ℕ → Later → Later
assigned_later y after x = ((x == y) ≡ false) × after x

-- a part of a variable is assigned, and then what follows
abbrev pub updated_later : ℕ → Later → Later
updated_later y after x = Used (x == y) (after x)

-- behind the body of a quantifier: another turn, whose variable has another value, or what follows
abbrev pub turn_later : ℕ → Expr ℕ → Later → Later
turn_later y body after x = (((x == y) ≡ false) × (occurs body x ≡ true)) ⊎ after x

-- the marks begin with one that is true exactly where the use is the last: no path behind it uses the variable before it assigns it
abbrev pub Marked : ℕ → Later → List Bool → List Bool → Type 0
Marked x after marks rest = (last : Bool) × (marks ≡ last ∷ rest) × (last ≡ true → after x → ⊥) × ((after x → ⊥) → last ≡ true)

abbrev mutual
  -- the marks begin with those of the uses in the expression, in order, behind which this follows; then come the others
  pub ExprMarks : Expr ℕ → (ℕ → Type 0) → List Bool → List Bool → Type 0
  ExprMarks (NullExpr at) after marks rest = marks ≡ rest
  ExprMarks (BoolExpr at truth) after marks rest = marks ≡ rest
  ExprMarks (IntExpr at number) after marks rest = marks ≡ rest
  ExprMarks (VarExpr at x) after marks rest = Marked x after marks rest
  ExprMarks (CallExpr at routine args) after marks rest = ExprsMarks args after marks rest
  ExprMarks (NegExpr at a) after marks rest = ExprMarks a after marks rest
  ExprMarks (NotExpr at a) after marks rest = ExprMarks a after marks rest
  ExprMarks (LenExpr at a) after marks rest = ExprMarks a after marks rest
  ExprMarks (BinaryExpr at op a b) after marks rest = (mid : List Bool) × ExprMarks a (then_later (occurs b) after) marks mid × ExprMarks b after mid rest
  ExprMarks (IsExpr at a ty) after marks rest = ExprMarks a after marks rest
  ExprMarks (IndexExpr at a b) after marks rest = (mid : List Bool) × ExprMarks a (then_later (occurs b) after) marks mid × ExprMarks b after mid rest
  ExprMarks (FieldExpr at a name) after marks rest = ExprMarks a after marks rest
  ExprMarks (ListExpr at items) after marks rest = ExprsMarks items after marks rest
  ExprMarks (RepeatExpr at a b) after marks rest = (mid : List Bool) × ExprMarks a (then_later (occurs b) after) marks mid × ExprMarks b after mid rest
  ExprMarks (RecordExpr at fs) after marks rest = FieldsMarks fs after marks rest
  ExprMarks (QuantExpr at all x a b body) after marks rest =
      (first : List Bool) × (second : List Bool) × ExprMarks a (then_later (occurs b) (turn_later x body after)) marks first
      × ExprMarks b (turn_later x body after) first second × ExprMarks body (turn_later x body after) second rest

  pub ExprsMarks : Exprs ℕ → (ℕ → Type 0) → List Bool → List Bool → Type 0
  ExprsMarks NoExprs after marks rest = marks ≡ rest
  ExprsMarks (MoreExprs e es) after marks rest = (mid : List Bool) × ExprMarks e (then_later (any_occurs es) after) marks mid × ExprsMarks es after mid rest

  pub FieldsMarks : Fields ℕ → (ℕ → Type 0) → List Bool → List Bool → Type 0
  FieldsMarks NoFields after marks rest = marks ≡ rest
  FieldsMarks (MoreFields name e fs) after marks rest = (mid : List Bool) × ExprMarks e (then_later (any_field_occurs fs) after) marks mid × FieldsMarks fs after mid rest

abbrev mutual
  -- the marks begin with one for each variable in what the machine doesn't run, each of which is no use
  pub unused : Expr ℕ → List Bool → List Bool
  unused (NullExpr at) rest = rest
  unused (BoolExpr at truth) rest = rest
  unused (IntExpr at number) rest = rest
  unused (VarExpr at x) rest = false ∷ rest
  unused (CallExpr at routine args) rest = all_unused args rest
  unused (NegExpr at a) rest = unused a rest
  unused (NotExpr at a) rest = unused a rest
  unused (LenExpr at a) rest = unused a rest
  unused (BinaryExpr at op a b) rest = unused a (unused b rest)
  unused (IsExpr at a ty) rest = unused a rest
  unused (IndexExpr at a b) rest = unused a (unused b rest)
  unused (FieldExpr at a name) rest = unused a rest
  unused (ListExpr at items) rest = all_unused items rest
  unused (RepeatExpr at a b) rest = unused a (unused b rest)
  unused (RecordExpr at fs) rest = fields_unused fs rest
  unused (QuantExpr at all x a b body) rest = unused a (unused b (unused body rest))

  pub all_unused : Exprs ℕ → List Bool → List Bool
  all_unused NoExprs rest = rest
  all_unused (MoreExprs e es) rest = unused e (all_unused es rest)

  pub fields_unused : Fields ℕ → List Bool → List Bool
  fields_unused NoFields rest = rest
  fields_unused (MoreFields name e fs) rest = unused e (fields_unused fs rest)

-- the same of clauses
abbrev pub clauses_unused : List (Expr ℕ) → List Bool → List Bool
clauses_unused [] rest = rest
clauses_unused (e ∷ es) rest = unused e (clauses_unused es rest)

abbrev pub StepMarks : Step ℕ → Later → List Bool → List Bool → Type 0
StepMarks (IndexStep at e) after marks rest = ExprMarks e after marks rest
StepMarks (FieldStep at name) after marks rest = marks ≡ rest

abbrev pub StepsMarks : List (Step ℕ) → Later → List Bool → List Bool → Type 0
StepsMarks [] after marks rest = marks ≡ rest
StepsMarks (step ∷ steps) after marks rest = (mid : List Bool) × StepMarks step (then_later (any_step_occurs steps) after) marks mid × StepsMarks steps after mid rest

abbrev pub DeclareMarks : ℕ → Option (Expr ℕ) → Later → List Bool → List Bool → Type 0
DeclareMarks x None after marks rest = marks ≡ rest
DeclareMarks x (Some e) after marks rest = ExprMarks e (assigned_later x after) marks rest

abbrev pub AssignMarks : ℕ → List (Step ℕ) → Expr ℕ → Later → List Bool → List Bool → Type 0
AssignMarks x [] e after marks rest = ExprMarks e (assigned_later x after) marks rest
AssignMarks x (step ∷ steps) e after marks rest =
    (mid : List Bool) × StepsMarks (step ∷ steps) (then_later (occurs e) (updated_later x after)) marks mid × ExprMarks e (updated_later x after) mid rest

-- nothing follows
abbrev pub nothing_later : Later
nothing_later x = ⊥

abbrev pub ReturnMarks : Option (Expr ℕ) → List Bool → List Bool → Type 0
ReturnMarks None marks rest = marks ≡ rest
ReturnMarks (Some e) marks rest = ExprMarks e nothing_later marks rest

-- behind the test of an `if`
abbrev pub if_later : Stmts ℕ → Stmts ℕ → Later → Later → Later → Later
if_later first second after exit again x = AreLive first x (after x) (exit x) (again x) ⊎ AreLive second x (after x) (exit x) (again x)

-- at the head of a loop, behind which this follows
abbrev pub head_later : Expr ℕ → Stmts ℕ → Later → Later
head_later e body after x = IsLive (WhileStmt 0 e [] body) x (after x) ⊥ ⊥

-- behind the test of a loop
abbrev pub test_later : Expr ℕ → Stmts ℕ → Later → Later
test_later e body after x = AreLive body x (head_later e body after x) (after x) (head_later e body after x) ⊎ after x

abbrev mutual
  -- the same of a statement: `after` follows it, `exit` the loop around, and `again` is that loop's next turn
  pub StmtMarks : Stmt ℕ → (ℕ → Type 0) → (ℕ → Type 0) → (ℕ → Type 0) → List Bool → List Bool → Type 0
  StmtMarks (DeclareStmt at ty x value) after exit again marks rest = DeclareMarks x value after marks rest
  StmtMarks (AssignStmt at x path e) after exit again marks rest = AssignMarks x path e after marks rest
  StmtMarks (CallStmt at routine args) after exit again marks rest = ExprsMarks args after marks rest
  StmtMarks (ReturnStmt at value) after exit again marks rest = ReturnMarks value marks rest
  StmtMarks (AssertStmt at e) after exit again marks rest = marks ≡ unused e rest
  StmtMarks (BreakStmt at) after exit again marks rest = marks ≡ rest
  StmtMarks (ContinueStmt at) after exit again marks rest = marks ≡ rest
  StmtMarks (SkipStmt at) after exit again marks rest = marks ≡ rest
  StmtMarks (FailStmt at) after exit again marks rest = marks ≡ rest
  StmtMarks (IfStmt at e first second) after exit again marks rest =
      (one : List Bool) × (two : List Bool) × ExprMarks e (if_later first second after exit again) marks one
      × StmtsMarks first after exit again one two × StmtsMarks second after exit again two rest
  StmtMarks (WhileStmt at e invariants body) after exit again marks rest =
      (one : List Bool) × ExprMarks e (test_later e body after) marks (clauses_unused invariants one)
      × StmtsMarks body (head_later e body after) after (head_later e body after) one rest

  pub StmtsMarks : Stmts ℕ → (ℕ → Type 0) → (ℕ → Type 0) → (ℕ → Type 0) → List Bool → List Bool → Type 0
  StmtsMarks NoStmts after exit again marks rest = marks ≡ rest
  StmtsMarks (MoreStmts st others) after exit again marks rest =
      (mid : List Bool) × StmtMarks st (λ x. AreLive others x (after x) (exit x) (again x)) exit again marks mid × StmtsMarks others after exit again mid rest

abbrev pub DeclMarks : Decl ℕ → List Bool → List Bool → Type 0
DeclMarks (AliasDecl a) marks rest = ExprsMarks (tree.exprs_of a.clauses) nothing_later marks rest
DeclMarks (RoutineDecl r) marks rest =
    (mid : List Bool) × (marks ≡ clauses_unused r.preconditions (clauses_unused r.postconditions mid)) × StmtsMarks r.body nothing_later nothing_later nothing_later mid rest

abbrev pub DeclsMarks : Core ℕ → List Bool → List Bool → Type 0
DeclsMarks [] marks rest = marks ≡ rest
DeclsMarks (d ∷ ds) marks rest = (mid : List Bool) × DeclMarks d marks mid × DeclsMarks ds mid rest

-- a mark for each variable in an expression of the program, in the order of the source but for the test of a loop, which comes before its invariants: true for the uses that are last
abbrev pub AreLast : Core ℕ → List Bool → Type 0
AreLast core marks = DeclsMarks core marks []
