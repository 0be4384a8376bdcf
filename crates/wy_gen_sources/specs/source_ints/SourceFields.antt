-- Which names fields have in a program as it is written.
use Rattle.std.specs.Prelude.{List, [], ◌∷◌, Option, Some, None}
use Rattle.wy_data.specs.Words.{IsName}
use Rattle.wy_ast.specs.SurfaceTree.{Ty, FieldTys, NullTy, BoolTy, IntTy, AnyTy, VoidTy, RecordTy, ArrayTy, UnionTy, InterTy, NotTy, NamedTy, NoFieldTys, MoreFieldTys}
use Rattle.wy_ast.specs.SurfaceTree.{Expr, Exprs, Fields, Ranges, NullExpr, BoolExpr, IntExpr, TextExpr, VarExpr, CallExpr, NegExpr, NotExpr, LenExpr, BinaryExpr, IsExpr, IndexExpr, FieldExpr, ListExpr, RepeatExpr, RecordExpr, QuantExpr, NoExprs, MoreExprs, NoFields, MoreFields, NoRanges, MoreRanges}
use Rattle.wy_ast.specs.SurfaceTree.{Step, IndexStep, FieldStep, Stmt, Stmts, Cases, DeclareStmt, AssignStmt, CallStmt, ReturnStmt, AssertStmt, BreakStmt, ContinueStmt, SkipStmt, FailStmt, IfStmt, WhileStmt, DoStmt, ForStmt, SwitchStmt, SwitchElseStmt, NoStmts, MoreStmts, NoCases, MoreCases}
use Rattle.wy_ast.specs.SurfaceTree.{Decl, AliasDecl, FunctionDecl, MethodDecl, PropertyDecl}

abbrev mutual
  -- each name of a field in the type is a name
  pub FieldsTy : Ty → Type 0
  FieldsTy (NullTy at) = Unit {0}
  FieldsTy (BoolTy at) = Unit {0}
  FieldsTy (IntTy at) = Unit {0}
  FieldsTy (AnyTy at) = Unit {0}
  FieldsTy (VoidTy at) = Unit {0}
  FieldsTy (RecordTy at fields) = FieldsTys fields
  FieldsTy (ArrayTy at item) = FieldsTy item
  FieldsTy (UnionTy at left right) = FieldsTy left × FieldsTy right
  FieldsTy (InterTy at left right) = FieldsTy left × FieldsTy right
  FieldsTy (NotTy at ty) = FieldsTy ty
  FieldsTy (NamedTy at name) = Unit {0}

  pub FieldsTys : FieldTys → Type 0
  FieldsTys NoFieldTys = Unit {0}
  FieldsTys (MoreFieldTys name ty rest) = IsName name × FieldsTy ty × FieldsTys rest

abbrev mutual
  -- the same of an expression
  pub FieldsExpr : Expr → Type 0
  FieldsExpr (NullExpr at) = Unit {0}
  FieldsExpr (BoolExpr at truth) = Unit {0}
  FieldsExpr (IntExpr at number) = Unit {0}
  FieldsExpr (TextExpr at bytes) = Unit {0}
  FieldsExpr (VarExpr at name) = Unit {0}
  FieldsExpr (CallExpr at name args) = FieldsExprs args
  FieldsExpr (NegExpr at a) = FieldsExpr a
  FieldsExpr (NotExpr at a) = FieldsExpr a
  FieldsExpr (LenExpr at a) = FieldsExpr a
  FieldsExpr (BinaryExpr at op a b) = FieldsExpr a × FieldsExpr b
  FieldsExpr (IsExpr at a t) = FieldsExpr a × FieldsTy t
  FieldsExpr (IndexExpr at a b) = FieldsExpr a × FieldsExpr b
  FieldsExpr (FieldExpr at a name) = FieldsExpr a × IsName name
  FieldsExpr (ListExpr at items) = FieldsExprs items
  FieldsExpr (RepeatExpr at a b) = FieldsExpr a × FieldsExpr b
  FieldsExpr (RecordExpr at fields) = FieldsValues fields
  FieldsExpr (QuantExpr at all ranges body) = FieldsRanges ranges × FieldsExpr body

  pub FieldsExprs : Exprs → Type 0
  FieldsExprs NoExprs = Unit {0}
  FieldsExprs (MoreExprs e rest) = FieldsExpr e × FieldsExprs rest

  pub FieldsValues : Fields → Type 0
  FieldsValues NoFields = Unit {0}
  FieldsValues (MoreFields name e rest) = IsName name × FieldsExpr e × FieldsValues rest

  pub FieldsRanges : Ranges → Type 0
  FieldsRanges NoRanges = Unit {0}
  FieldsRanges (MoreRanges name from to rest) = FieldsExpr from × FieldsExpr to × FieldsRanges rest

abbrev pub FieldsClauses : List Expr → Type 0
FieldsClauses [] = Unit {0}
FieldsClauses (e ∷ es) = FieldsExpr e × FieldsClauses es

abbrev pub FieldsOption : Option Expr → Type 0
FieldsOption None = Unit {0}
FieldsOption (Some e) = FieldsExpr e

abbrev pub FieldsPath : List Step → Type 0
FieldsPath [] = Unit {0}
FieldsPath (IndexStep at e ∷ steps) = FieldsExpr e × FieldsPath steps
FieldsPath (FieldStep at name ∷ steps) = IsName name × FieldsPath steps

abbrev mutual
  pub FieldsStmt : Stmt → Type 0
  FieldsStmt (DeclareStmt at t name value) = FieldsOption value
  FieldsStmt (AssignStmt at name path value) = FieldsPath path × FieldsExpr value
  FieldsStmt (CallStmt at name args) = FieldsExprs args
  FieldsStmt (ReturnStmt at value) = FieldsOption value
  FieldsStmt (AssertStmt at test) = FieldsExpr test
  FieldsStmt (BreakStmt at) = Unit {0}
  FieldsStmt (ContinueStmt at) = Unit {0}
  FieldsStmt (SkipStmt at) = Unit {0}
  FieldsStmt (FailStmt at) = Unit {0}
  FieldsStmt (IfStmt at test first second) = FieldsExpr test × FieldsStmts first × FieldsStmts second
  FieldsStmt (WhileStmt at test invariants body) = FieldsExpr test × FieldsClauses invariants × FieldsStmts body
  FieldsStmt (DoStmt at body test invariants) = FieldsStmts body × FieldsExpr test × FieldsClauses invariants
  FieldsStmt (ForStmt at name from to invariants body) = FieldsExpr from × FieldsExpr to × FieldsClauses invariants × FieldsStmts body
  FieldsStmt (SwitchStmt at value cases) = FieldsExpr value × FieldsCases cases
  FieldsStmt (SwitchElseStmt at value cases default) = FieldsExpr value × FieldsCases cases × FieldsStmts default

  pub FieldsStmts : Stmts → Type 0
  FieldsStmts NoStmts = Unit {0}
  FieldsStmts (MoreStmts x rest) = FieldsStmt x × FieldsStmts rest

  pub FieldsCases : Cases → Type 0
  FieldsCases NoCases = Unit {0}
  FieldsCases (MoreCases labels body rest) = FieldsClauses labels × FieldsStmts body × FieldsCases rest

abbrev pub FieldsDecl : Decl → Type 0
FieldsDecl (AliasDecl a) = FieldsTy a.ty × FieldsClauses a.clauses
FieldsDecl (FunctionDecl f) = FieldsClauses f.preconditions × FieldsClauses f.postconditions × FieldsStmts f.body
FieldsDecl (MethodDecl m) = FieldsClauses m.preconditions × FieldsClauses m.postconditions × FieldsStmts m.body
FieldsDecl (PropertyDecl p) = FieldsClauses p.clauses

-- each name of a field in a program is a name, as each that was read from a text. The types of variables, parameters and results don't matter
abbrev pub FieldsAreNames : List Decl → Type 0
FieldsAreNames [] = Unit {0}
FieldsAreNames (d ∷ ds) = FieldsDecl d × FieldsAreNames ds
