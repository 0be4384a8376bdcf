-- The paths through expressions and statements, by the syntax: what a test says is left open.
use Rattle.std.specs.Prelude.{◌≡◌, ◌⊎◌, ℕ, zero, suc, List, [], ◌∷◌, ◌++◌, Option, Some, None}
use Rattle.wy_core.specs.CoreTree.{Expr, NullExpr, BoolExpr, IntExpr, VarExpr, CallExpr, NegExpr, NotExpr, LenExpr, BinaryExpr, IsExpr, IndexExpr, FieldExpr, ListExpr, RepeatExpr, RecordExpr, QuantExpr, Exprs, NoExprs, MoreExprs, Fields, NoFields, MoreFields, Step, IndexStep, FieldStep, Stmt, DeclareStmt, AssignStmt, CallStmt, ReturnStmt, AssertStmt, BreakStmt, ContinueStmt, SkipStmt, FailStmt, IfStmt, WhileStmt, Stmts, NoStmts, MoreStmts}
use Rattle.wy_core.specs.declared.expressions.Op.{Op}
use Rattle.wy_core.specs.declared.expressions.Op.TheVariants as op
use Rattle.wy_live.specs.live_paths.Events.{uses, sets, Path, Paths, Then}

-- ---- expressions

-- the right side of an operator: `&&` and `||` may leave it out
abbrev pub Right : Op → Paths → Paths
Right op.Add right = right
Right op.Sub right = right
Right op.Mul right = right
Right op.Div right = right
Right op.Mod right = right
Right op.Equal right = right
Right op.Less right = right
Right op.LessEqual right = right
Right op.Greater right = right
Right op.GreaterEqual right = right
Right op.And right = λ es. (es ≡ []) ⊎ right es
Right op.Or right = λ es. (es ≡ []) ⊎ right es

-- so many turns of a quantifier, each of which assigns its variable and goes through its body
abbrev pub QuantTurns : ℕ → ℕ → Paths → Paths
QuantTurns zero y body es = es ≡ []
QuantTurns (suc n) y body es = (p : Path) × (q : Path) × (es ≡ sets y ∷ (p ++ q)) × body p × QuantTurns n y body q

-- any number of turns
abbrev pub AnyTurns : ℕ → Paths → Paths
AnyTurns y body es = (n : ℕ) × QuantTurns n y body es

abbrev mutual
  -- a path through the expression
  pub Through : Expr ℕ → Path → Type 0
  Through (NullExpr at) es = es ≡ []
  Through (BoolExpr at truth) es = es ≡ []
  Through (IntExpr at number) es = es ≡ []
  Through (VarExpr at x) es = es ≡ uses x ∷ []
  Through (CallExpr at routine args) es = ThroughAll args es
  Through (NegExpr at a) es = Through a es
  Through (NotExpr at a) es = Through a es
  Through (LenExpr at a) es = Through a es
  Through (BinaryExpr at o a b) es = Then (λ p. Through a p) (Right o (λ q. Through b q)) es
  Through (IsExpr at a ty) es = Through a es
  Through (IndexExpr at a b) es = Then (λ p. Through a p) (λ q. Through b q) es
  Through (FieldExpr at a name) es = Through a es
  Through (ListExpr at items) es = ThroughAll items es
  Through (RepeatExpr at a b) es = Then (λ p. Through a p) (λ q. Through b q) es
  Through (RecordExpr at fs) es = ThroughFields fs es
  Through (QuantExpr at all y a b body) es = Then (λ p. Through a p) (Then (λ q. Through b q) (AnyTurns y (λ r. Through body r))) es

  pub ThroughAll : Exprs ℕ → Path → Type 0
  ThroughAll NoExprs es = es ≡ []
  ThroughAll (MoreExprs e rest) es = Then (λ p. Through e p) (λ q. ThroughAll rest q) es

  pub ThroughFields : Fields ℕ → Path → Type 0
  ThroughFields NoFields es = es ≡ []
  ThroughFields (MoreFields name e rest) es = Then (λ p. Through e p) (λ q. ThroughFields rest q) es

abbrev pub ThroughStep : Step ℕ → Path → Type 0
ThroughStep (IndexStep at e) es = Through e es
ThroughStep (FieldStep at name) es = es ≡ []

abbrev pub ThroughSteps : List (Step ℕ) → Path → Type 0
ThroughSteps [] es = es ≡ []
ThroughSteps (step ∷ steps) es = Then (ThroughStep step) (λ q. ThroughSteps steps q) es

-- ---- statements

-- how a path leaves a statement: at its end, by `break`, by `continue`, or out of the body
pub data End : Type 0 where
  falls : End
  breaks : End
  continues : End
  stops : End

-- a value, and then the assignment
abbrev pub ThroughSet : ℕ → Expr ℕ → Path → End → Type 0
ThroughSet y e es end = Then (Through e) (λ q. q ≡ sets y ∷ []) es × (end ≡ falls)

abbrev pub ThroughDeclare : ℕ → Option (Expr ℕ) → Path → End → Type 0
ThroughDeclare y None es end = (es ≡ []) × (end ≡ falls)
ThroughDeclare y (Some e) es end = ThroughSet y e es end

-- a part of a variable is assigned behind the indices and the value, which uses the variable
abbrev pub ThroughAssign : ℕ → List (Step ℕ) → Expr ℕ → Path → End → Type 0
ThroughAssign y [] e es end = ThroughSet y e es end
ThroughAssign y (step ∷ steps) e es end = Then (ThroughSteps (step ∷ steps)) (Then (Through e) (λ q. q ≡ uses y ∷ [])) es × (end ≡ falls)

abbrev pub ThroughReturn : Option (Expr ℕ) → Path → End → Type 0
ThroughReturn None es end = (es ≡ []) × (end ≡ stops)
ThroughReturn (Some e) es end = Through e es × (end ≡ stops)

-- so many turns of a loop with this test, and this through its body; then the test once more, or a `break`, or the body's way out
abbrev pub ThroughTurns : ℕ → Paths → (Path → End → Type 0) → Path → End → Type 0
ThroughTurns zero test body es end = test es × (end ≡ falls)
ThroughTurns (suc n) test body es end =
    (p : Path) × (q : Path) × (es ≡ p ++ q) × test p × (((r : Path) × (s : Path) × (q ≡ r ++ s) × (body r falls ⊎ body r continues) × ThroughTurns n test body s end)
    ⊎ ((body q breaks × (end ≡ falls)) ⊎ (body q stops × (end ≡ stops))))

abbrev mutual
  -- a path through the statement, and how it leaves it; clauses of contracts, of loops and of `assert` don't run
  pub ThroughStmt : Stmt ℕ → Path → End → Type 0
  ThroughStmt (DeclareStmt at ty y value) es end = ThroughDeclare y value es end
  ThroughStmt (AssignStmt at y path e) es end = ThroughAssign y path e es end
  ThroughStmt (CallStmt at routine args) es end = ThroughAll args es × (end ≡ falls)
  ThroughStmt (ReturnStmt at value) es end = ThroughReturn value es end
  ThroughStmt (AssertStmt at e) es end = (es ≡ []) × (end ≡ falls)
  ThroughStmt (BreakStmt at) es end = (es ≡ []) × (end ≡ breaks)
  ThroughStmt (ContinueStmt at) es end = (es ≡ []) × (end ≡ continues)
  ThroughStmt (SkipStmt at) es end = (es ≡ []) × (end ≡ falls)
  ThroughStmt (FailStmt at) es end = (es ≡ []) × (end ≡ stops)
  ThroughStmt (IfStmt at e first second) es end = Then (Through e) (λ q. ThroughStmts first q end ⊎ ThroughStmts second q end) es
  ThroughStmt (WhileStmt at e invariants body) es end = (n : ℕ) × ThroughTurns n (Through e) (λ p left. ThroughStmts body p left) es end

  -- the same of statements, one behind the other
  pub ThroughStmts : Stmts ℕ → Path → End → Type 0
  ThroughStmts NoStmts es end = (es ≡ []) × (end ≡ falls)
  ThroughStmts (MoreStmts st rest) es end =
      Then (λ p. ThroughStmt st p falls) (λ q. ThroughStmts rest q end) es
      ⊎ ((ThroughStmt st es breaks × (end ≡ breaks)) ⊎ ((ThroughStmt st es continues × (end ≡ continues)) ⊎ (ThroughStmt st es stops × (end ≡ stops))))
