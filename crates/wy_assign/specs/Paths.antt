-- Which paths lead through the syntax: what each meets, in order, and how it ends.
use Rattle.std.specs.Prelude.{◌≡◌, ◌⊎◌, ℕ, zero, suc, Bool, true, false, List, [], ◌∷◌, ◌++◌, Option, Some, None}
use Rattle.wy_core.specs.CoreTree.{Expr, NullExpr, BoolExpr, IntExpr, VarExpr, CallExpr, NegExpr, NotExpr, LenExpr, BinaryExpr, IsExpr, IndexExpr, FieldExpr, ListExpr, RepeatExpr, RecordExpr, QuantExpr, Exprs, NoExprs, MoreExprs, Fields, NoFields, MoreFields, Step, IndexStep, FieldStep, Stmt, DeclareStmt, AssignStmt, CallStmt, ReturnStmt, AssertStmt, BreakStmt, ContinueStmt, SkipStmt, FailStmt, IfStmt, WhileStmt, Stmts, NoStmts, MoreStmts}
use Rattle.wy_core.specs.declared.expressions.Op.{Op}
use Rattle.wy_core.specs.declared.expressions.Op.TheVariants as op

-- what a path meets: a use of a variable at a place, what gives a variable a value, and a declaration without a value, behind which the variable has none
pub data Event : Type 0 where
  Uses : (at : ℕ) (variable : ℕ) → Event
  Sets : (variable : ℕ) → Event
  Unsets : (variable : ℕ) → Event

-- how a path ends: behind the statement, by `break`, by `continue`, or by `return` or `fail`
pub data End : Type 0 where
  Falls : End
  Breaks : End
  Continues : End
  Leaves : End

-- which paths lead through something that has one end
abbrev pub Through : Type 1
Through = List Event → Type 0

-- which paths lead through something, and how each ends
abbrev pub Course : Type 1
Course = List Event → End → Type 0

-- ---- one end

-- nothing is met
abbrev pub Nothing : Through
Nothing p = p ≡ []

-- this one event
abbrev pub One : Event → Through
One e p = p ≡ e ∷ []

-- the first and then the second
abbrev pub Then : Through → Through → Through
Then first second p = (q : List Event) × (r : List Event) × (p ≡ q ++ r) × first q × second r

-- where it may be left out, also nothing
abbrev pub Maybe : Bool → Through → Through
Maybe true way p = (p ≡ []) ⊎ way p
Maybe false way p = way p

-- so many turns
abbrev pub Times : ℕ → Through → Through
Times zero turn p = p ≡ []
Times (suc n) turn p = Then turn (Times n turn) p

-- any number of turns
abbrev pub AnyTimes : Through → Through
AnyTimes turn p = (n : ℕ) × Times n turn p

-- whether the operator may leave out its right side
abbrev pub is_early : Op → Bool
is_early op.And = true
is_early op.Or = true
is_early op.Add = false
is_early op.Sub = false
is_early op.Mul = false
is_early op.Div = false
is_early op.Mod = false
is_early op.Equal = false
is_early op.Less = false
is_early op.LessEqual = false
is_early op.Greater = false
is_early op.GreaterEqual = false

abbrev mutual
  -- through an expression: from left to right; the right side of `&&` and `||` or not; the body of a quantifier any number of times, each time with another value of its variable
  pub ExprPath : Expr ℕ → List Event → Type 0
  ExprPath (NullExpr at) p = Nothing p
  ExprPath (BoolExpr at truth) p = Nothing p
  ExprPath (IntExpr at number) p = Nothing p
  ExprPath (VarExpr at x) p = One (Uses at x) p
  ExprPath (CallExpr at routine args) p = ExprsPath args p
  ExprPath (NegExpr at a) p = ExprPath a p
  ExprPath (NotExpr at a) p = ExprPath a p
  ExprPath (LenExpr at a) p = ExprPath a p
  ExprPath (BinaryExpr at o a b) p = Then (λ q. ExprPath a q) (Maybe (is_early o) (λ r. ExprPath b r)) p
  ExprPath (IsExpr at a ty) p = ExprPath a p
  ExprPath (IndexExpr at a b) p = Then (λ q. ExprPath a q) (λ r. ExprPath b r) p
  ExprPath (FieldExpr at a name) p = ExprPath a p
  ExprPath (ListExpr at items) p = ExprsPath items p
  ExprPath (RepeatExpr at a b) p = Then (λ q. ExprPath a q) (λ r. ExprPath b r) p
  ExprPath (RecordExpr at fs) p = FieldsPath fs p
  ExprPath (QuantExpr at all x a b body) p = Then (λ q. ExprPath a q) (Then (λ q. ExprPath b q) (AnyTimes (Then (One (Sets x)) (λ r. ExprPath body r)))) p

  -- through expressions, one behind the other
  pub ExprsPath : Exprs ℕ → List Event → Type 0
  ExprsPath NoExprs p = Nothing p
  ExprsPath (MoreExprs e es) p = Then (λ q. ExprPath e q) (λ r. ExprsPath es r) p

  -- through the values of fields
  pub FieldsPath : Fields ℕ → List Event → Type 0
  FieldsPath NoFields p = Nothing p
  FieldsPath (MoreFields name e fs) p = Then (λ q. ExprPath e q) (λ r. FieldsPath fs r) p

-- through clauses, one behind the other
abbrev pub ClausesPath : List (Expr ℕ) → List Event → Type 0
ClausesPath [] p = Nothing p
ClausesPath (e ∷ es) p = Then (ExprPath e) (ClausesPath es) p

-- through a value that may be absent
abbrev pub OptionPath : Option (Expr ℕ) → List Event → Type 0
OptionPath None p = Nothing p
OptionPath (Some e) p = ExprPath e p

-- through the index of a step, where it has one
abbrev pub StepPath : Step ℕ → List Event → Type 0
StepPath (IndexStep at e) p = ExprPath e p
StepPath (FieldStep at name) p = Nothing p

-- through the steps of a path into a variable
abbrev pub StepsPath : List (Step ℕ) → List Event → Type 0
StepsPath [] p = Nothing p
StepsPath (step ∷ steps) p = Then (StepPath step) (StepsPath steps) p

-- ---- several ends

-- it ends so
abbrev pub Ending : End → Through → Course
Ending how way p end = (end ≡ how) × way p

-- the first, and then the second with its ends
abbrev pub Before : Through → Course → Course
Before first second p end = (q : List Event) × (r : List Event) × (p ≡ q ++ r) × first q × second r end

-- either of two
abbrev pub Either : Course → Course → Course
Either first second p end = first p end ⊎ second p end

-- whether a path goes on behind it
abbrev pub falls : End → Bool
falls Falls = true
falls Breaks = false
falls Continues = false
falls Leaves = false

-- the first, and the second behind it where a path gets there
abbrev pub InOrder : Course → Course → Course
InOrder first second p end = ((falls end ≡ false) × first p end) ⊎ ((q : List Event) × (r : List Event) × (p ≡ q ++ r) × first q Falls × second r end)

-- the body of a loop and, behind its end or a `continue`, what follows; a `break` ends the loop
abbrev pub Around : Course → Course → Course
Around body next p end =
    ((end ≡ Falls) × body p Breaks)
    ⊎ (((end ≡ Leaves) × body p Leaves)
    ⊎ ((q : List Event) × (r : List Event) × (p ≡ q ++ r) × (body q Falls ⊎ body q Continues) × next r end))

-- a loop, from its head on, whose body is begun so often
abbrev pub Turns : ℕ → Through → Course → Course
Turns zero head body p end = (end ≡ Falls) × head p
Turns (suc n) head body p end = Before head (Around body (Turns n head body)) p end

-- a loop
abbrev pub Loop : Through → Course → Course
Loop head body p end = (n : ℕ) × Turns n head body p end

-- an assignment to a variable, or to a part of it, which uses it
abbrev pub AssignPath : ℕ → ℕ → List (Step ℕ) → Expr ℕ → Through
AssignPath at x [] e p = Then (ExprPath e) (One (Sets x)) p
AssignPath at x (step ∷ steps) e p = Then (One (Uses at x)) (Then (StepsPath (step ∷ steps)) (ExprPath e)) p

-- a declaration, with or without a value
abbrev pub DeclarePath : ℕ → Option (Expr ℕ) → Through
DeclarePath x None p = One (Unsets x) p
DeclarePath x (Some e) p = Then (ExprPath e) (One (Sets x)) p

abbrev mutual
  -- through a statement: either block of an `if`; the body of a loop any number of times, its invariants and its test before each turn and behind the last
  pub StmtPath : Stmt ℕ → List Event → End → Type 0
  StmtPath (DeclareStmt at ty x value) p end = Ending Falls (DeclarePath x value) p end
  StmtPath (AssignStmt at x path e) p end = Ending Falls (AssignPath at x path e) p end
  StmtPath (CallStmt at routine args) p end = Ending Falls (ExprsPath args) p end
  StmtPath (ReturnStmt at value) p end = Ending Leaves (OptionPath value) p end
  StmtPath (AssertStmt at e) p end = Ending Falls (ExprPath e) p end
  StmtPath (BreakStmt at) p end = Ending Breaks Nothing p end
  StmtPath (ContinueStmt at) p end = Ending Continues Nothing p end
  StmtPath (SkipStmt at) p end = Ending Falls Nothing p end
  StmtPath (FailStmt at) p end = Ending Leaves Nothing p end
  StmtPath (IfStmt at e first second) p end = Before (ExprPath e) (Either (λ q k. StmtsPath first q k) (λ q k. StmtsPath second q k)) p end
  StmtPath (WhileStmt at e invariants body) p end = Loop (Then (ClausesPath invariants) (ExprPath e)) (λ q k. StmtsPath body q k) p end

  -- through a block
  pub StmtsPath : Stmts ℕ → List Event → End → Type 0
  StmtsPath NoStmts p end = Ending Falls Nothing p end
  StmtsPath (MoreStmts st rest) p end = InOrder (λ q k. StmtPath st q k) (λ q k. StmtsPath rest q k) p end
