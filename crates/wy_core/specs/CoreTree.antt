-- The core tree as plain data. Each expression carries an N: its place, or whatever a pass knows of it besides.
use Rattle.std.specs.Prelude.{ℕ, ℤ, Bool, List, [], ◌∷◌, Option}
use Rattle.wy_core.specs.Types.{Ty}
use Rattle.wy_core.specs.declared.expressions.Op.{Op}

mutual
  -- an expression
  pub data Expr (N : Type 0) : Type 0 where
    NullExpr : (n : N) → Expr N
    BoolExpr : (n : N) (truth : Bool) → Expr N
    IntExpr : (n : N) (number : ℤ) → Expr N
    VarExpr : (n : N) (variable : ℕ) → Expr N
    CallExpr : (n : N) (routine : ℕ) (args : Exprs N) → Expr N
    NegExpr : (n : N) (operand : Expr N) → Expr N
    NotExpr : (n : N) (operand : Expr N) → Expr N
    LenExpr : (n : N) (operand : Expr N) → Expr N
    BinaryExpr : (n : N) (op : Op) (left right : Expr N) → Expr N
    IsExpr : (n : N) (operand : Expr N) (ty : Ty) → Expr N
    IndexExpr : (n : N) (array index : Expr N) → Expr N
    FieldExpr : (n : N) (whole : Expr N) (name : List ℕ) → Expr N
    ListExpr : (n : N) (items : Exprs N) → Expr N
    RepeatExpr : (n : N) (item count : Expr N) → Expr N
    RecordExpr : (n : N) (fields : Fields N) → Expr N
    QuantExpr : (n : N) (all : Bool) (variable : ℕ) (from to body : Expr N) → Expr N

  -- a list of expressions
  pub data Exprs (N : Type 0) : Type 0 where
    NoExprs : Exprs N
    MoreExprs : (first : Expr N) (rest : Exprs N) → Exprs N

  -- the fields of a record, each a name (its bytes) and an expression
  pub data Fields (N : Type 0) : Type 0 where
    NoFields : Fields N
    MoreFields : (name : List ℕ) (value : Expr N) (rest : Fields N) → Fields N

-- a step of a path, at its place
pub data Step (N : Type 0) : Type 0 where
  IndexStep : (at : ℕ) (index : Expr N) → Step N
  FieldStep : (at : ℕ) (name : List ℕ) → Step N

mutual
  -- a statement, at its place
  pub data Stmt (N : Type 0) : Type 0 where
    DeclareStmt : (at : ℕ) (ty : Ty) (variable : ℕ) (value : Option (Expr N)) → Stmt N
    AssignStmt : (at : ℕ) (variable : ℕ) (path : List (Step N)) (value : Expr N) → Stmt N
    CallStmt : (at : ℕ) (routine : ℕ) (args : Exprs N) → Stmt N
    ReturnStmt : (at : ℕ) (value : Option (Expr N)) → Stmt N
    AssertStmt : (at : ℕ) (test : Expr N) → Stmt N
    BreakStmt : (at : ℕ) → Stmt N
    ContinueStmt : (at : ℕ) → Stmt N
    SkipStmt : (at : ℕ) → Stmt N
    FailStmt : (at : ℕ) → Stmt N
    IfStmt : (at : ℕ) (test : Expr N) (first second : Stmts N) → Stmt N
    WhileStmt : (at : ℕ) (test : Expr N) (invariants : List (Expr N)) (body : Stmts N) → Stmt N

  -- a block
  pub data Stmts (N : Type 0) : Type 0 where
    NoStmts : Stmts N
    MoreStmts : (first : Stmt N) (rest : Stmts N) → Stmts N

-- a parameter: its type, the place of that type, and its variable
pub record Param : Type 0 where
  pub at : ℕ
  pub ty : Ty
  pub variable : ℕ

-- a result: its type, the place of that type, and its variable where it has a name
pub record Output : Type 0 where
  pub at : ℕ
  pub ty : Ty
  pub variable : Option ℕ

-- a declared type
pub record Alias (N : Type 0) : Type 0 where
  pub at : ℕ
  pub name : List ℕ
  pub variables : List (List ℕ)
  pub ty_at : ℕ
  pub ty : Ty
  pub variable : Option ℕ
  pub clauses : List (Expr N)

-- a function or method
pub record Routine (N : Type 0) : Type 0 where
  pub at : ℕ
  pub name : List ℕ
  pub is_method : Bool
  pub variables : List (List ℕ)
  pub params : List Param
  pub result : Option Output
  pub preconditions : List (Expr N)
  pub postconditions : List (Expr N)
  pub body : Stmts N

-- a declaration
pub data Decl (N : Type 0) : Type 0 where
  AliasDecl : (alias : Alias N) → Decl N
  RoutineDecl : (routine : Routine N) → Decl N

-- a program: its declarations in the order of the source
abbrev pub Core : Type 0 → Type 0
Core N = List (Decl N)

-- these expressions, in order
abbrev pub exprs_of : {N : Type 0} → List (Expr N) → Exprs N
exprs_of [] = NoExprs
exprs_of (e ∷ es) = MoreExprs e (exprs_of es)

-- these fields, in order
abbrev pub fields_of : {N : Type 0} → List (List ℕ × Expr N) → Fields N
fields_of [] = NoFields
fields_of (f ∷ fs) = MoreFields f.0 f.1 (fields_of fs)

-- these statements, in order
abbrev pub stmts_of : {N : Type 0} → List (Stmt N) → Stmts N
stmts_of [] = NoStmts
stmts_of (s ∷ ss) = MoreStmts s (stmts_of ss)

-- the declared types, by their numbers
abbrev pub aliases_of : {N : Type 0} → List (Decl N) → List (Alias N)
aliases_of [] = []
aliases_of (AliasDecl alias ∷ ds) = alias ∷ aliases_of ds
aliases_of (RoutineDecl routine ∷ ds) = aliases_of ds

-- the functions and methods, by their numbers
abbrev pub routines_of : {N : Type 0} → List (Decl N) → List (Routine N)
routines_of [] = []
routines_of (AliasDecl alias ∷ ds) = routines_of ds
routines_of (RoutineDecl routine ∷ ds) = routine ∷ routines_of ds
