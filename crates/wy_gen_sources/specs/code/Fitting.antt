-- What the law on registers asks of expressions and statements, beside the names that a formed core has in order: variables have the registers below n, and those that are used are in the set U.
use Rattle.std.specs.Prelude.{◌≡◌, ◌⊎◌, ◌<◌, ℕ, List, [], ◌∷◌, true, Option, Some, None}
use Rattle.wy_core.specs.CoreTree.{Expr, NullExpr, BoolExpr, IntExpr, VarExpr, CallExpr, NegExpr, NotExpr, LenExpr, BinaryExpr, IsExpr, IndexExpr, FieldExpr, ListExpr, RepeatExpr, RecordExpr, QuantExpr, Exprs, NoExprs, MoreExprs, Fields, NoFields, MoreFields, Step, IndexStep, FieldStep, Stmt, DeclareStmt, AssignStmt, CallStmt, ReturnStmt, AssertStmt, BreakStmt, ContinueStmt, SkipStmt, FailStmt, IfStmt, WhileStmt, Stmts, NoStmts, MoreStmts}
use Rattle.wy_gen_laws.specs.wy_code_spec.declared.tables.context.Context.{Context}
use Rattle.wy_gen_laws.specs.wy_code_spec.declared.tables.targets.Target.{Target}
use Rattle.wy_gen_laws.specs.wy_code_spec.declared.tables.targets.Target.TheVariants.{Declared, Prints, PrintsInt, Nothing}
use Rattle.wy_gen_laws.specs.wy_code_spec.tables.Tables.{target}
use Rattle.wy_gen_laws.specs.wy_code_spec.compiled.Expressions.{count_of}

-- a function or method of the program with a result
abbrev pub IsValue : Target → Type 0
IsValue (Declared gives) = gives ≡ true
IsValue Prints = ⊥
IsValue PrintsInt = ⊥
IsValue Nothing = ⊥

abbrev mutual
  -- the variable of a quantifier is none of those in use around it
  pub Fits : Context → ℕ → Expr ℕ → (ℕ → Type 0) → Type 0
  Fits c n (NullExpr at) U = Unit {0}
  Fits c n (BoolExpr at truth) U = Unit {0}
  Fits c n (IntExpr at number) U = Unit {0}
  Fits c n (VarExpr at x) U = U x
  Fits c n (CallExpr at g args) U = IsValue (target c.results g) × FitAll c n args U
  Fits c n (NegExpr at a) U = Fits c n a U
  Fits c n (NotExpr at a) U = Fits c n a U
  Fits c n (LenExpr at a) U = Fits c n a U
  Fits c n (BinaryExpr at o a b) U = Fits c n a U × Fits c n b U
  Fits c n (IsExpr at a ty) U = Fits c n a U
  Fits c n (IndexExpr at a b) U = Fits c n a U × Fits c n b U
  Fits c n (FieldExpr at a name) U = Fits c n a U
  Fits c n (ListExpr at items) U = FitAll c n items U
  Fits c n (RepeatExpr at a b) U = Fits c n a U × Fits c n b U
  Fits c n (RecordExpr at fs) U = FitFields c n fs U
  Fits c n (QuantExpr at all x a b body) U = Fits c n a U × Fits c n b U × (U x → ⊥) × (x < n) × Fits c n body (λ r. U r ⊎ (r ≡ x))

  pub FitAll : Context → ℕ → Exprs ℕ → (ℕ → Type 0) → Type 0
  FitAll c n NoExprs U = Unit {0}
  FitAll c n (MoreExprs e es) U = Fits c n e U × FitAll c n es U

  pub FitFields : Context → ℕ → Fields ℕ → (ℕ → Type 0) → Type 0
  FitFields c n NoFields U = Unit {0}
  FitFields c n (MoreFields name e fs) U = Fits c n e U × FitFields c n fs U

-- ---- statements

abbrev pub FitsOption : Context → ℕ → Option (Expr ℕ) → (ℕ → Type 0) → Type 0
FitsOption c n None U = Unit {0}
FitsOption c n (Some e) U = Fits c n e U

abbrev pub FitsPath : Context → ℕ → List (Step ℕ) → (ℕ → Type 0) → Type 0
FitsPath c n [] U = Unit {0}
FitsPath c n (IndexStep at e ∷ path) U = Fits c n e U × FitsPath c n path U
FitsPath c n (FieldStep at name ∷ path) U = FitsPath c n path U

-- something is called, on as many values as it takes where that is known
abbrev pub IsAction : Target → ℕ → Type 0
IsAction (Declared gives) k = Unit {0}
IsAction Prints k = k ≡ 1
IsAction PrintsInt k = k ≡ 1
IsAction Nothing k = ⊥

-- a value is given where the routine may give one
abbrev pub MayGive : Type 0 → Option (Expr ℕ) → Type 0
MayGive R None = Unit {0}
MayGive R (Some e) = R

abbrev mutual
  pub FitsStmt : Context → ℕ → Type 0 → Stmt ℕ → (ℕ → Type 0) → Type 0
  FitsStmt c n R (DeclareStmt at ty x value) U = U x × FitsOption c n value U
  FitsStmt c n R (AssignStmt at x path e) U = U x × FitsPath c n path U × Fits c n e U
  FitsStmt c n R (CallStmt at g args) U = IsAction (target c.results g) (count_of args) × FitAll c n args U
  FitsStmt c n R (ReturnStmt at value) U = FitsOption c n value U × MayGive R value
  FitsStmt c n R (AssertStmt at e) U = Unit {0}
  FitsStmt c n R (BreakStmt at) U = Unit {0}
  FitsStmt c n R (ContinueStmt at) U = Unit {0}
  FitsStmt c n R (SkipStmt at) U = Unit {0}
  FitsStmt c n R (FailStmt at) U = Unit {0}
  FitsStmt c n R (IfStmt at e first second) U = Fits c n e U × FitsStmts c n R first U × FitsStmts c n R second U
  FitsStmt c n R (WhileStmt at e invariants inner) U = Fits c n e U × FitsStmts c n R inner U

  pub FitsStmts : Context → ℕ → Type 0 → Stmts ℕ → (ℕ → Type 0) → Type 0
  FitsStmts c n R NoStmts U = Unit {0}
  FitsStmts c n R (MoreStmts st rest) U = FitsStmt c n R st U × FitsStmts c n R rest U
