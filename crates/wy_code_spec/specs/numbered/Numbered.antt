-- The numbers of names and shapes in a table stand for them, wherever code asks for one.
use Rattle.std.specs.Prelude.{◌≡◌, ℕ, List, [], ◌∷◌, Option, Some, None, slice_get}
use Rattle.wy_core.specs.Types.{Ty, NullTy, BoolTy, IntTy, AnyTy, VoidTy, RecordTy, ArrayTy, UnionTy, InterTy, NotTy, NamedTy, NormalTy, FieldTys, NoFieldTys, MoreFieldTys}
use Rattle.wy_core.specs.CoreTree as tree
use Rattle.wy_core.specs.CoreTree.{Expr, NullExpr, BoolExpr, IntExpr, VarExpr, CallExpr, NegExpr, NotExpr, LenExpr, BinaryExpr, IsExpr, IndexExpr, FieldExpr, ListExpr, RepeatExpr, RecordExpr, QuantExpr, Exprs, NoExprs, MoreExprs, Fields, NoFields, MoreFields, Step, IndexStep, FieldStep, Stmt, DeclareStmt, AssignStmt, CallStmt, ReturnStmt, AssertStmt, BreakStmt, ContinueStmt, SkipStmt, FailStmt, IfStmt, WhileStmt, Stmts, NoStmts, MoreStmts, Decl, AliasDecl, RoutineDecl, Core}
use Rattle.wy_value.specs.declared.shapes.Shapes.{Shapes}
use Rattle.wy_code_spec.specs.tables.Tables.{number_of, shape_number, names_in, ty_names_in, table_of}
use Rattle.wy_code_spec.specs.step.Step.{shape_names}

-- the name has the number that code gives it
abbrev pub IsNumber : Shapes → List ℕ → Type 0
IsNumber u n = slice_get u.names (number_of n u.names) ≡ Some n

abbrev pub AreNumbers : Shapes → List (List ℕ) → Type 0
AreNumbers u [] = Unit {0}
AreNumbers u (n ∷ ns) = IsNumber u n × AreNumbers u ns

-- so have the names of a record, and the shape by them
abbrev pub IsShape : Shapes → List (List ℕ) → Type 0
IsShape u ns = AreNumbers u ns × (shape_names u (shape_number u ns) ≡ Some ns)

-- ---- so of all that has code: types that are tested, expressions, statements and declarations

abbrev mutual
  pub NumberedTy : Shapes → Ty → Type 0
  NumberedTy u NullTy = Unit {0}
  NumberedTy u BoolTy = Unit {0}
  NumberedTy u IntTy = Unit {0}
  NumberedTy u AnyTy = Unit {0}
  NumberedTy u VoidTy = Unit {0}
  NumberedTy u (RecordTy fs) = IsShape u (ty_names_in fs) × NumberedFieldTys u fs
  NumberedTy u (ArrayTy a) = NumberedTy u a
  NumberedTy u (UnionTy a b) = NumberedTy u a × NumberedTy u b
  NumberedTy u (InterTy a b) = NumberedTy u a × NumberedTy u b
  NumberedTy u (NotTy a) = NumberedTy u a
  NumberedTy u (NamedTy n) = Unit {0}
  NumberedTy u (NormalTy cs) = Unit {0}

  pub NumberedFieldTys : Shapes → FieldTys → Type 0
  NumberedFieldTys u NoFieldTys = Unit {0}
  NumberedFieldTys u (MoreFieldTys name a fs) = NumberedTy u a × NumberedFieldTys u fs

abbrev mutual
  pub NumberedExpr : Shapes → Expr ℕ → Type 0
  NumberedExpr u (NullExpr at) = Unit {0}
  NumberedExpr u (BoolExpr at truth) = Unit {0}
  NumberedExpr u (IntExpr at number) = Unit {0}
  NumberedExpr u (VarExpr at x) = Unit {0}
  NumberedExpr u (CallExpr at routine args) = NumberedExprs u args
  NumberedExpr u (NegExpr at a) = NumberedExpr u a
  NumberedExpr u (NotExpr at a) = NumberedExpr u a
  NumberedExpr u (LenExpr at a) = NumberedExpr u a
  NumberedExpr u (BinaryExpr at op a b) = NumberedExpr u a × NumberedExpr u b
  NumberedExpr u (IsExpr at a ty) = NumberedExpr u a × NumberedTy u ty
  NumberedExpr u (IndexExpr at a b) = NumberedExpr u a × NumberedExpr u b
  NumberedExpr u (FieldExpr at a name) = NumberedExpr u a × IsNumber u name
  NumberedExpr u (ListExpr at items) = NumberedExprs u items
  NumberedExpr u (RepeatExpr at a b) = NumberedExpr u a × NumberedExpr u b
  NumberedExpr u (RecordExpr at fs) = IsShape u (names_in fs) × NumberedFields u fs
  NumberedExpr u (QuantExpr at all x a b body) = NumberedExpr u a × (NumberedExpr u b × NumberedExpr u body)

  pub NumberedExprs : Shapes → Exprs ℕ → Type 0
  NumberedExprs u NoExprs = Unit {0}
  NumberedExprs u (MoreExprs e es) = NumberedExpr u e × NumberedExprs u es

  pub NumberedFields : Shapes → Fields ℕ → Type 0
  NumberedFields u NoFields = Unit {0}
  NumberedFields u (MoreFields name e fs) = NumberedExpr u e × NumberedFields u fs

abbrev pub NumberedOption : Shapes → Option (Expr ℕ) → Type 0
NumberedOption u None = Unit {0}
NumberedOption u (Some e) = NumberedExpr u e

abbrev pub NumberedPath : Shapes → List (Step ℕ) → Type 0
NumberedPath u [] = Unit {0}
NumberedPath u (IndexStep at e ∷ path) = NumberedExpr u e × NumberedPath u path
NumberedPath u (FieldStep at name ∷ path) = IsNumber u name × NumberedPath u path

abbrev mutual
  pub NumberedStmt : Shapes → Stmt ℕ → Type 0
  NumberedStmt u (DeclareStmt at ty x value) = NumberedOption u value
  NumberedStmt u (AssignStmt at x path e) = NumberedPath u path × NumberedExpr u e
  NumberedStmt u (CallStmt at routine args) = NumberedExprs u args
  NumberedStmt u (ReturnStmt at value) = NumberedOption u value
  NumberedStmt u (AssertStmt at e) = Unit {0}
  NumberedStmt u (BreakStmt at) = Unit {0}
  NumberedStmt u (ContinueStmt at) = Unit {0}
  NumberedStmt u (SkipStmt at) = Unit {0}
  NumberedStmt u (FailStmt at) = Unit {0}
  NumberedStmt u (IfStmt at e first second) = NumberedExpr u e × (NumberedStmts u first × NumberedStmts u second)
  NumberedStmt u (WhileStmt at e invariants body) = NumberedExpr u e × NumberedStmts u body

  pub NumberedStmts : Shapes → Stmts ℕ → Type 0
  NumberedStmts u NoStmts = Unit {0}
  NumberedStmts u (MoreStmts st rest) = NumberedStmt u st × NumberedStmts u rest

abbrev pub NumberedDecl : Shapes → Decl ℕ → Type 0
NumberedDecl u (AliasDecl a) = NumberedTy u a.ty × NumberedExprs u (tree.exprs_of a.clauses)
NumberedDecl u (RoutineDecl r) = NumberedStmts u r.body

abbrev pub NumberedDecls : Shapes → Core ℕ → Type 0
NumberedDecls u [] = Unit {0}
NumberedDecls u (d ∷ ds) = NumberedDecl u d × NumberedDecls u ds

-- in each program
abbrev pub NumbersStandForNames : Type 0
NumbersStandForNames = (core : Core ℕ) → NumberedDecls (table_of core) core
