-- Which whole numbers stand in a program as it is written, and which bytes in its texts.
use Rattle.std.specs.Prelude.{◌<◌, ℕ, List, [], ◌∷◌, Option, Some, None}
use Rattle.wy_ast.specs.SurfaceTree.{Expr, Exprs, Fields, Ranges, NullExpr, BoolExpr, IntExpr, TextExpr, VarExpr, CallExpr, NegExpr, NotExpr, LenExpr, BinaryExpr, IsExpr, IndexExpr, FieldExpr, ListExpr, RepeatExpr, RecordExpr, QuantExpr, NoExprs, MoreExprs, NoFields, MoreFields, NoRanges, MoreRanges}
use Rattle.wy_ast.specs.SurfaceTree.{Step, IndexStep, FieldStep, Stmt, Stmts, Cases, DeclareStmt, AssignStmt, CallStmt, ReturnStmt, AssertStmt, BreakStmt, ContinueStmt, SkipStmt, FailStmt, IfStmt, WhileStmt, DoStmt, ForStmt, SwitchStmt, SwitchElseStmt, NoStmts, MoreStmts, NoCases, MoreCases}
use Rattle.wy_ast.specs.SurfaceTree.{Decl, AliasDecl, FunctionDecl, MethodDecl, PropertyDecl}
use Rattle.wy_core.specs.formed.Literals.{IsInt}

-- each of these is a byte
abbrev pub Bytes : List ℕ → Type 0
Bytes [] = Unit {0}
Bytes (b ∷ bs) = (b < 256) × Bytes bs

abbrev mutual
  -- each number of the expression is an `int`
  pub SourceExpr : Expr → Type 0
  SourceExpr (NullExpr at) = Unit {0}
  SourceExpr (BoolExpr at truth) = Unit {0}
  SourceExpr (IntExpr at number) = IsInt number
  SourceExpr (TextExpr at bytes) = Bytes bytes
  SourceExpr (VarExpr at name) = Unit {0}
  SourceExpr (CallExpr at name args) = SourceExprs args
  SourceExpr (NegExpr at a) = SourceExpr a
  SourceExpr (NotExpr at a) = SourceExpr a
  SourceExpr (LenExpr at a) = SourceExpr a
  SourceExpr (BinaryExpr at op a b) = SourceExpr a × SourceExpr b
  SourceExpr (IsExpr at a t) = SourceExpr a
  SourceExpr (IndexExpr at a b) = SourceExpr a × SourceExpr b
  SourceExpr (FieldExpr at a name) = SourceExpr a
  SourceExpr (ListExpr at items) = SourceExprs items
  SourceExpr (RepeatExpr at a b) = SourceExpr a × SourceExpr b
  SourceExpr (RecordExpr at fields) = SourceFields fields
  SourceExpr (QuantExpr at all ranges body) = SourceRanges ranges × SourceExpr body

  pub SourceExprs : Exprs → Type 0
  SourceExprs NoExprs = Unit {0}
  SourceExprs (MoreExprs e rest) = SourceExpr e × SourceExprs rest

  pub SourceFields : Fields → Type 0
  SourceFields NoFields = Unit {0}
  SourceFields (MoreFields name e rest) = SourceExpr e × SourceFields rest

  pub SourceRanges : Ranges → Type 0
  SourceRanges NoRanges = Unit {0}
  SourceRanges (MoreRanges name from to rest) = SourceExpr from × SourceExpr to × SourceRanges rest

abbrev pub SourceClauses : List Expr → Type 0
SourceClauses [] = Unit {0}
SourceClauses (e ∷ es) = SourceExpr e × SourceClauses es

abbrev pub SourceOption : Option Expr → Type 0
SourceOption None = Unit {0}
SourceOption (Some e) = SourceExpr e

abbrev pub SourcePath : List Step → Type 0
SourcePath [] = Unit {0}
SourcePath (IndexStep at e ∷ steps) = SourceExpr e × SourcePath steps
SourcePath (FieldStep at name ∷ steps) = SourcePath steps

abbrev mutual
  pub SourceStmt : Stmt → Type 0
  SourceStmt (DeclareStmt at t name value) = SourceOption value
  SourceStmt (AssignStmt at name path value) = SourcePath path × SourceExpr value
  SourceStmt (CallStmt at name args) = SourceExprs args
  SourceStmt (ReturnStmt at value) = SourceOption value
  SourceStmt (AssertStmt at test) = SourceExpr test
  SourceStmt (BreakStmt at) = Unit {0}
  SourceStmt (ContinueStmt at) = Unit {0}
  SourceStmt (SkipStmt at) = Unit {0}
  SourceStmt (FailStmt at) = Unit {0}
  SourceStmt (IfStmt at test first second) = SourceExpr test × SourceStmts first × SourceStmts second
  SourceStmt (WhileStmt at test invariants body) = SourceExpr test × SourceClauses invariants × SourceStmts body
  SourceStmt (DoStmt at body test invariants) = SourceStmts body × SourceExpr test × SourceClauses invariants
  SourceStmt (ForStmt at name from to invariants body) = SourceExpr from × SourceExpr to × SourceClauses invariants × SourceStmts body
  SourceStmt (SwitchStmt at value cases) = SourceExpr value × SourceCases cases
  SourceStmt (SwitchElseStmt at value cases default) = SourceExpr value × SourceCases cases × SourceStmts default

  pub SourceStmts : Stmts → Type 0
  SourceStmts NoStmts = Unit {0}
  SourceStmts (MoreStmts x rest) = SourceStmt x × SourceStmts rest

  pub SourceCases : Cases → Type 0
  SourceCases NoCases = Unit {0}
  SourceCases (MoreCases labels body rest) = SourceClauses labels × SourceStmts body × SourceCases rest

abbrev pub SourceDecl : Decl → Type 0
SourceDecl (AliasDecl a) = SourceClauses a.clauses
SourceDecl (FunctionDecl f) = SourceClauses f.preconditions × SourceClauses f.postconditions × SourceStmts f.body
SourceDecl (MethodDecl m) = SourceClauses m.preconditions × SourceClauses m.postconditions × SourceStmts m.body
SourceDecl (PropertyDecl p) = SourceClauses p.clauses

-- each number of a program is an `int`, as of each that was read from a text
abbrev pub SourceInts : List Decl → Type 0
SourceInts [] = Unit {0}
SourceInts (d ∷ ds) = SourceDecl d × SourceInts ds
