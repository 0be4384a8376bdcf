-- The tree as it is written, as plain data. Each node carries its place.
use Rattle.std.specs.Prelude.{ℕ, ℤ, Bool, List, [], ◌∷◌, Option}
use Rattle.wy_ast.specs.declared.expressions.Op.{Op}

mutual
  -- a type
  pub data Ty : Type 0 where
    NullTy : (at : ℕ) → Ty
    BoolTy : (at : ℕ) → Ty
    IntTy : (at : ℕ) → Ty
    AnyTy : (at : ℕ) → Ty
    VoidTy : (at : ℕ) → Ty
    RecordTy : (at : ℕ) (fields : FieldTys) → Ty
    ArrayTy : (at : ℕ) (item : Ty) → Ty
    UnionTy : (at : ℕ) (left right : Ty) → Ty
    InterTy : (at : ℕ) (left right : Ty) → Ty
    NotTy : (at : ℕ) (ty : Ty) → Ty
    NamedTy : (at : ℕ) (name : List ℕ) → Ty

  -- the fields of a record type, each a name (its bytes) and a type
  pub data FieldTys : Type 0 where
    NoFieldTys : FieldTys
    MoreFieldTys : (name : List ℕ) (ty : Ty) (rest : FieldTys) → FieldTys

mutual
  -- an expression
  pub data Expr : Type 0 where
    NullExpr : (at : ℕ) → Expr
    BoolExpr : (at : ℕ) (truth : Bool) → Expr
    IntExpr : (at : ℕ) (number : ℤ) → Expr
    TextExpr : (at : ℕ) (bytes : List ℕ) → Expr
    VarExpr : (at : ℕ) (name : List ℕ) → Expr
    CallExpr : (at : ℕ) (name : List ℕ) (args : Exprs) → Expr
    NegExpr : (at : ℕ) (operand : Expr) → Expr
    NotExpr : (at : ℕ) (operand : Expr) → Expr
    LenExpr : (at : ℕ) (operand : Expr) → Expr
    BinaryExpr : (at : ℕ) (op : Op) (left right : Expr) → Expr
    IsExpr : (at : ℕ) (operand : Expr) (ty : Ty) → Expr
    IndexExpr : (at : ℕ) (array index : Expr) → Expr
    FieldExpr : (at : ℕ) (whole : Expr) (name : List ℕ) → Expr
    ListExpr : (at : ℕ) (items : Exprs) → Expr
    RepeatExpr : (at : ℕ) (item count : Expr) → Expr
    RecordExpr : (at : ℕ) (fields : Fields) → Expr
    QuantExpr : (at : ℕ) (all : Bool) (ranges : Ranges) (body : Expr) → Expr

  -- a list of expressions
  pub data Exprs : Type 0 where
    NoExprs : Exprs
    MoreExprs : (first : Expr) (rest : Exprs) → Exprs

  -- the fields of a record, each a name (its bytes) and an expression
  pub data Fields : Type 0 where
    NoFields : Fields
    MoreFields : (name : List ℕ) (value : Expr) (rest : Fields) → Fields

  -- the ranges of a quantifier, each a variable, its first number and the number behind its last
  pub data Ranges : Type 0 where
    NoRanges : Ranges
    MoreRanges : (name : List ℕ) (from to : Expr) (rest : Ranges) → Ranges

-- a step of a path
pub data Step : Type 0 where
  IndexStep : (at : ℕ) (index : Expr) → Step
  FieldStep : (at : ℕ) (name : List ℕ) → Step

mutual
  -- a statement
  pub data Stmt : Type 0 where
    DeclareStmt : (at : ℕ) (ty : Ty) (name : List ℕ) (value : Option Expr) → Stmt
    AssignStmt : (at : ℕ) (name : List ℕ) (path : List Step) (value : Expr) → Stmt
    CallStmt : (at : ℕ) (name : List ℕ) (args : Exprs) → Stmt
    ReturnStmt : (at : ℕ) (value : Option Expr) → Stmt
    AssertStmt : (at : ℕ) (test : Expr) → Stmt
    BreakStmt : (at : ℕ) → Stmt
    ContinueStmt : (at : ℕ) → Stmt
    SkipStmt : (at : ℕ) → Stmt
    FailStmt : (at : ℕ) → Stmt
    IfStmt : (at : ℕ) (test : Expr) (first second : Stmts) → Stmt
    WhileStmt : (at : ℕ) (test : Expr) (invariants : List Expr) (body : Stmts) → Stmt
    DoStmt : (at : ℕ) (body : Stmts) (test : Expr) (invariants : List Expr) → Stmt
    ForStmt : (at : ℕ) (name : List ℕ) (from to : Expr) (invariants : List Expr) (body : Stmts) → Stmt
    SwitchStmt : (at : ℕ) (value : Expr) (cases : Cases) → Stmt
    SwitchElseStmt : (at : ℕ) (value : Expr) (cases : Cases) (default : Stmts) → Stmt

  -- a block
  pub data Stmts : Type 0 where
    NoStmts : Stmts
    MoreStmts : (first : Stmt) (rest : Stmts) → Stmts

  -- the cases of a switch, each its labels and its block
  pub data Cases : Type 0 where
    NoCases : Cases
    MoreCases : (labels : List Expr) (body : Stmts) (rest : Cases) → Cases

-- a parameter
pub record Param : Type 0 where
  pub ty : Ty
  pub name : List ℕ

-- a type declaration
pub record Alias : Type 0 where
  pub at : ℕ
  pub name : List ℕ
  pub ty : Ty
  pub variable : Option (List ℕ)
  pub clauses : List Expr

-- a function
pub record Function : Type 0 where
  pub at : ℕ
  pub name : List ℕ
  pub params : List Param
  pub result : Ty
  pub result_name : Option (List ℕ)
  pub preconditions : List Expr
  pub postconditions : List Expr
  pub body : Stmts

-- a method
pub record Method : Type 0 where
  pub at : ℕ
  pub name : List ℕ
  pub params : List Param
  pub result : Option (Ty × Option (List ℕ))
  pub preconditions : List Expr
  pub postconditions : List Expr
  pub body : Stmts

-- a property
pub record Property : Type 0 where
  pub at : ℕ
  pub name : List ℕ
  pub params : List Param
  pub clauses : List Expr

-- a declaration
pub data Decl : Type 0 where
  AliasDecl : (alias : Alias) → Decl
  FunctionDecl : (function : Function) → Decl
  MethodDecl : (method : Method) → Decl
  PropertyDecl : (property : Property) → Decl

-- a source file: its imports, each a name with the place of that name, and its declarations
pub record Program : Type 0 where
  pub imports : List (List ℕ × ℕ)
  pub decls : List Decl

-- these field types, in order
abbrev pub field_tys_of : List (List ℕ × Ty) → FieldTys
field_tys_of [] = NoFieldTys
field_tys_of (f ∷ fs) = MoreFieldTys f.0 f.1 (field_tys_of fs)

-- these expressions, in order
abbrev pub exprs_of : List Expr → Exprs
exprs_of [] = NoExprs
exprs_of (e ∷ es) = MoreExprs e (exprs_of es)

-- these fields, in order
abbrev pub fields_of : List (List ℕ × Expr) → Fields
fields_of [] = NoFields
fields_of (f ∷ fs) = MoreFields f.0 f.1 (fields_of fs)

-- these ranges, in order
abbrev pub ranges_of : List (List ℕ × Expr × Expr) → Ranges
ranges_of [] = NoRanges
ranges_of (r ∷ rs) = MoreRanges r.0 r.1 r.2 (ranges_of rs)

-- these statements, in order
abbrev pub stmts_of : List Stmt → Stmts
stmts_of [] = NoStmts
stmts_of (s ∷ ss) = MoreStmts s (stmts_of ss)

-- these cases, in order
abbrev pub cases_of : List (List Expr × Stmts) → Cases
cases_of [] = NoCases
cases_of (c ∷ cs) = MoreCases c.0 c.1 (cases_of cs)
