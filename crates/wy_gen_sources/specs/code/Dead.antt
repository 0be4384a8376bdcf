-- Nothing dead is kept in the code of a program.
use Rattle.std.specs.Prelude.{◌≡◌, ◌⊎◌, ℕ, zero, suc, List, [], ◌∷◌, Bool, true, Option, Some, None}
use Rattle.wy_value.specs.Datum.{Datum}
use Rattle.wy_core.specs.CoreTree as tree
use Rattle.wy_core.specs.CoreTree.{Expr, NullExpr, BoolExpr, IntExpr, VarExpr, CallExpr, NegExpr, NotExpr, LenExpr, BinaryExpr, IsExpr, IndexExpr, FieldExpr, ListExpr, RepeatExpr, RecordExpr, QuantExpr, Exprs, NoExprs, MoreExprs, Fields, NoFields, MoreFields, Step, IndexStep, FieldStep, Stmt, DeclareStmt, AssignStmt, CallStmt, ReturnStmt, AssertStmt, BreakStmt, ContinueStmt, SkipStmt, FailStmt, IfStmt, WhileStmt, Stmts, NoStmts, MoreStmts, Param, Core, routines_of}
use Rattle.wy_core.specs.formed.Formed.{Formed}
use Rattle.wy_gen_laws.specs.wy_code_spec.tables.Tables.{results_of}
use Rattle.wy_gen_laws.specs.wy_code_spec.compiled.Programs.{code_of}
use Rattle.wy_gen_laws.specs.wy_code_spec.step.Step.{start, after}
use Rattle.wy_gen_laws.specs.tests.Tested.{ClausesNameTheirs}
use Rattle.wy_gen_laws.specs.programs.Programs.{AllInOrder}
use Rattle.wy_gen_sources.specs.code.Safe.{Gives, KeepsNothing}

-- ---- the variables of quantifiers

abbrev mutual
  -- a quantifier in the expression has this variable
  pub Counts : Expr ℕ → ℕ → Type 0
  Counts (NullExpr at) x = ⊥
  Counts (BoolExpr at truth) x = ⊥
  Counts (IntExpr at number) x = ⊥
  Counts (VarExpr at y) x = ⊥
  Counts (CallExpr at g args) x = CountsAll args x
  Counts (NegExpr at a) x = Counts a x
  Counts (NotExpr at a) x = Counts a x
  Counts (LenExpr at a) x = Counts a x
  Counts (BinaryExpr at o a b) x = Counts a x ⊎ Counts b x
  Counts (IsExpr at a ty) x = Counts a x
  Counts (IndexExpr at a b) x = Counts a x ⊎ Counts b x
  Counts (FieldExpr at a name) x = Counts a x
  Counts (ListExpr at items) x = CountsAll items x
  Counts (RepeatExpr at a b) x = Counts a x ⊎ Counts b x
  Counts (RecordExpr at fs) x = CountsFields fs x
  Counts (QuantExpr at all y a b body) x = (x ≡ y) ⊎ (Counts a x ⊎ (Counts b x ⊎ Counts body x))

  pub CountsAll : Exprs ℕ → ℕ → Type 0
  CountsAll NoExprs x = ⊥
  CountsAll (MoreExprs e es) x = Counts e x ⊎ CountsAll es x

  pub CountsFields : Fields ℕ → ℕ → Type 0
  CountsFields NoFields x = ⊥
  CountsFields (MoreFields name e fs) x = Counts e x ⊎ CountsFields fs x

abbrev pub CountsOption : Option (Expr ℕ) → ℕ → Type 0
CountsOption None x = ⊥
CountsOption (Some e) x = Counts e x

abbrev pub CountsPath : List (Step ℕ) → ℕ → Type 0
CountsPath [] x = ⊥
CountsPath (IndexStep at e ∷ path) x = Counts e x ⊎ CountsPath path x
CountsPath (FieldStep at name ∷ path) x = CountsPath path x

abbrev mutual
  -- so of what the machine runs of a statement
  pub CountsStmt : Stmt ℕ → ℕ → Type 0
  CountsStmt (DeclareStmt at ty y value) x = CountsOption value x
  CountsStmt (AssignStmt at y path e) x = CountsPath path x ⊎ Counts e x
  CountsStmt (CallStmt at g args) x = CountsAll args x
  CountsStmt (ReturnStmt at value) x = CountsOption value x
  CountsStmt (AssertStmt at e) x = ⊥
  CountsStmt (BreakStmt at) x = ⊥
  CountsStmt (ContinueStmt at) x = ⊥
  CountsStmt (SkipStmt at) x = ⊥
  CountsStmt (FailStmt at) x = ⊥
  CountsStmt (IfStmt at e first second) x = Counts e x ⊎ (CountsStmts first x ⊎ CountsStmts second x)
  CountsStmt (WhileStmt at e invariants body) x = Counts e x ⊎ CountsStmts body x

  pub CountsStmts : Stmts ℕ → ℕ → Type 0
  CountsStmts NoStmts x = ⊥
  CountsStmts (MoreStmts st rest) x = CountsStmt st x ⊎ CountsStmts rest x

abbrev mutual
  -- a statement declares the variable
  pub Declares : Stmt ℕ → ℕ → Type 0
  Declares (DeclareStmt at ty y value) x = x ≡ y
  Declares (AssignStmt at y path e) x = ⊥
  Declares (CallStmt at g args) x = ⊥
  Declares (ReturnStmt at value) x = ⊥
  Declares (AssertStmt at e) x = ⊥
  Declares (BreakStmt at) x = ⊥
  Declares (ContinueStmt at) x = ⊥
  Declares (SkipStmt at) x = ⊥
  Declares (FailStmt at) x = ⊥
  Declares (IfStmt at e first second) x = DeclaresIn first x ⊎ DeclaresIn second x
  Declares (WhileStmt at e invariants body) x = DeclaresIn body x

  pub DeclaresIn : Stmts ℕ → ℕ → Type 0
  DeclaresIn NoStmts x = ⊥
  DeclaresIn (MoreStmts st rest) x = Declares st x ⊎ DeclaresIn rest x

abbrev pub IsParam : List Param → ℕ → Type 0
IsParam [] x = ⊥
IsParam (p ∷ ps) x = (x ≡ p.variable) ⊎ IsParam ps x

-- the variable is a parameter, or a statement declares it
abbrev pub IsDeclared : tree.Routine ℕ → ℕ → Type 0
IsDeclared r x = IsParam r.params x ⊎ DeclaresIn r.body x

-- no variable of a quantifier that is run has the number of a declared one
abbrev pub OwnCounters : List (tree.Routine ℕ) → Type 0
OwnCounters [] = Unit {0}
OwnCounters (r ∷ rs) = ((x : ℕ) → CountsStmts r.body x → IsDeclared r x → ⊥) × OwnCounters rs

-- ---- the law

-- whether the routine may give a list or a record; what a test of a type says is the value of its last clause, which may be any
abbrev pub result_at : List Bool → ℕ → Bool
result_at [] f = true
result_at (b ∷ bs) zero = b
result_at (b ∷ bs) (suc f) = result_at bs f

-- so of each routine of the code
abbrev pub gives_of : Core ℕ → Gives
gives_of core f = result_at (results_of (routines_of core)) f

abbrev pub RunsKeep : Core ℕ → Type 0
RunsKeep core = (f : ℕ) (vs : List Datum) (n : ℕ) → KeepsNothing (code_of core) (after (code_of core) n (start (code_of core) f vs))

-- what is asked of each program
pub record Asked (core : Core ℕ) : Type 0 where
  pub formed : Formed core
  pub order : AllInOrder (routines_of core)
  pub names : ClausesNameTheirs core
  pub counters : OwnCounters (routines_of core)

-- in each run of the code, on whatever arguments, whenever the next instruction of a frame is no `Clear`: each register of the frame that holds a list or a record is live at the frame's place
abbrev pub NothingDeadIsKept : Type 0
NothingDeadIsKept = (core : Core ℕ) → Asked core → RunsKeep core
