-- Which paths through the syntax use a variable before they assign it.
use Rattle.std.specs.Prelude.{◌≡◌, ◌⊎◌, ℕ, zero, suc, Bool, true, false, not, ◌&&◌, ◌||◌, ◌==◌, List, [], ◌∷◌, Option, Some, None}
use Rattle.wy_core.specs.CoreTree.{Expr, NullExpr, BoolExpr, IntExpr, VarExpr, CallExpr, NegExpr, NotExpr, LenExpr, BinaryExpr, IsExpr, IndexExpr, FieldExpr, ListExpr, RepeatExpr, RecordExpr, QuantExpr, Exprs, NoExprs, MoreExprs, Fields, NoFields, MoreFields, Step, IndexStep, FieldStep, Stmt, DeclareStmt, AssignStmt, CallStmt, ReturnStmt, AssertStmt, BreakStmt, ContinueStmt, SkipStmt, FailStmt, IfStmt, WhileStmt, Stmts, NoStmts, MoreStmts}

-- ---- expressions, which assign nothing but the variables of their quantifiers

abbrev mutual
  -- some path through the expression uses the variable: it stands in it, and not in a quantifier of its own
  pub occurs : Expr ℕ → ℕ → Bool
  occurs (NullExpr at) x = false
  occurs (BoolExpr at truth) x = false
  occurs (IntExpr at number) x = false
  occurs (VarExpr at y) x = x == y
  occurs (CallExpr at routine args) x = any_occurs args x
  occurs (NegExpr at a) x = occurs a x
  occurs (NotExpr at a) x = occurs a x
  occurs (LenExpr at a) x = occurs a x
  occurs (BinaryExpr at op a b) x = occurs a x || occurs b x
  occurs (IsExpr at a ty) x = occurs a x
  occurs (IndexExpr at a b) x = occurs a x || occurs b x
  occurs (FieldExpr at a name) x = occurs a x
  occurs (ListExpr at items) x = any_occurs items x
  occurs (RepeatExpr at a b) x = occurs a x || occurs b x
  occurs (RecordExpr at fs) x = any_field_occurs fs x
  occurs (QuantExpr at all y a b body) x = occurs a x || (occurs b x || (not (x == y) && occurs body x))

  pub any_occurs : Exprs ℕ → ℕ → Bool
  any_occurs NoExprs x = false
  any_occurs (MoreExprs e es) x = occurs e x || any_occurs es x

  pub any_field_occurs : Fields ℕ → ℕ → Bool
  any_field_occurs NoFields x = false
  any_field_occurs (MoreFields name e fs) x = occurs e x || any_field_occurs fs x

abbrev pub step_occurs : Step ℕ → ℕ → Bool
step_occurs (IndexStep at e) x = occurs e x
step_occurs (FieldStep at name) x = false

abbrev pub any_step_occurs : List (Step ℕ) → ℕ → Bool
any_step_occurs [] x = false
any_step_occurs (step ∷ steps) x = step_occurs step x || any_step_occurs steps x

-- ---- statements: `after` says of what follows the statement that some path there uses the variable before it assigns it, `exit` the same of what follows the loop around, and `again` of the loop's next turn

-- the variable is used, or some path behind uses it
abbrev pub Used : Bool → Type 0 → Type 0
Used used after = (used ≡ true) ⊎ after

-- the variable is used, or another one is assigned and some path behind uses it
abbrev pub UsedOrKept : Bool → ℕ → ℕ → Type 0 → Type 0
UsedOrKept used x y after = (used ≡ true) ⊎ (((x == y) ≡ false) × after)

-- a declaration without a value assigns nothing
abbrev pub DeclareLive : ℕ → Option (Expr ℕ) → ℕ → Type 0 → Type 0
DeclareLive y None x after = after
DeclareLive y (Some e) x after = UsedOrKept (occurs e x) x y after

-- an assignment to a part of a variable uses the variable behind the indices and the value, and doesn't assign it
abbrev pub AssignLive : ℕ → List (Step ℕ) → Expr ℕ → ℕ → Type 0 → Type 0
AssignLive y [] e x after = UsedOrKept (occurs e x) x y after
AssignLive y (step ∷ steps) e x after = Used (any_step_occurs (step ∷ steps) x || (occurs e x || (x == y))) after

abbrev pub ReturnLive : Option (Expr ℕ) → ℕ → Type 0
ReturnLive None x = ⊥
ReturnLive (Some e) x = occurs e x ≡ true

-- from the head of a loop on, with so many turns, each of which goes through the body; `body` has what follows its end and each `continue`
abbrev pub Turns : ℕ → Bool → (Type 0 → Type 0) → Type 0 → Type 0
Turns zero used body after = Used used after
Turns (suc n) used body after = Used used (body (Turns n used body after))

abbrev mutual
  -- some path from the statement on uses the variable before it assigns it; clauses of contracts, of loops and of `assert` are no uses
  pub IsLive : Stmt ℕ → ℕ → Type 0 → Type 0 → Type 0 → Type 0
  IsLive (DeclareStmt at ty y value) x after exit again = DeclareLive y value x after
  IsLive (AssignStmt at y path e) x after exit again = AssignLive y path e x after
  IsLive (CallStmt at routine args) x after exit again = Used (any_occurs args x) after
  IsLive (ReturnStmt at value) x after exit again = ReturnLive value x
  IsLive (AssertStmt at e) x after exit again = after
  IsLive (BreakStmt at) x after exit again = exit
  IsLive (ContinueStmt at) x after exit again = again
  IsLive (SkipStmt at) x after exit again = after
  IsLive (FailStmt at) x after exit again = ⊥
  IsLive (IfStmt at e first second) x after exit again = Used (occurs e x) (AreLive first x after exit again ⊎ AreLive second x after exit again)
  IsLive (WhileStmt at e invariants body) x after exit again = (n : ℕ) × Turns n (occurs e x) (λ next. AreLive body x next after next) after

  pub AreLive : Stmts ℕ → ℕ → Type 0 → Type 0 → Type 0 → Type 0
  AreLive NoStmts x after exit again = after
  AreLive (MoreStmts st rest) x after exit again = IsLive st x (AreLive rest x after exit again) exit again
