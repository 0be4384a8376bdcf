-- The names of fields in a program are names, and those of each record rise.
use Rattle.std.specs.Prelude.{ℕ, List, [], ◌∷◌, Option, Some, None}
use Rattle.wy_data.specs.Words.{IsName}
use Rattle.wy_value.specs.Values.{Rise}
use Rattle.wy_core.specs.Types.{Ty, NullTy, BoolTy, IntTy, AnyTy, VoidTy, RecordTy, ArrayTy, UnionTy, InterTy, NotTy, NamedTy, NormalTy, FieldTys, NoFieldTys, MoreFieldTys}
use Rattle.wy_core.specs.CoreTree as tree
use Rattle.wy_core.specs.CoreTree.{Expr, NullExpr, BoolExpr, IntExpr, VarExpr, CallExpr, NegExpr, NotExpr, LenExpr, BinaryExpr, IsExpr, IndexExpr, FieldExpr, ListExpr, RepeatExpr, RecordExpr, QuantExpr, Exprs, NoExprs, MoreExprs, Fields, NoFields, MoreFields, Step, IndexStep, FieldStep, Stmt, DeclareStmt, AssignStmt, CallStmt, ReturnStmt, AssertStmt, BreakStmt, ContinueStmt, SkipStmt, FailStmt, IfStmt, WhileStmt, Stmts, NoStmts, MoreStmts, Decl, AliasDecl, RoutineDecl, Core}
use Rattle.wy_code_spec.specs.tables.Tables.{names_in, ty_names_in}

abbrev pub AreNames : List (List ℕ) → Type 0
AreNames [] = Unit {0}
AreNames (n ∷ ns) = IsName n × AreNames ns

-- the fields of a record
abbrev pub AreFields : List (List ℕ) → Type 0
AreFields ns = AreNames ns × Rise ns

abbrev mutual
  pub NamesTy : Ty → Type 0
  NamesTy NullTy = Unit {0}
  NamesTy BoolTy = Unit {0}
  NamesTy IntTy = Unit {0}
  NamesTy AnyTy = Unit {0}
  NamesTy VoidTy = Unit {0}
  NamesTy (RecordTy fs) = AreFields (ty_names_in fs) × NameFieldTys fs
  NamesTy (ArrayTy a) = NamesTy a
  NamesTy (UnionTy a b) = NamesTy a × NamesTy b
  NamesTy (InterTy a b) = NamesTy a × NamesTy b
  NamesTy (NotTy a) = NamesTy a
  NamesTy (NamedTy n) = Unit {0}
  NamesTy (NormalTy cs) = Unit {0}

  pub NameFieldTys : FieldTys → Type 0
  NameFieldTys NoFieldTys = Unit {0}
  NameFieldTys (MoreFieldTys name a fs) = NamesTy a × NameFieldTys fs

abbrev mutual
  pub NamesExpr : Expr ℕ → Type 0
  NamesExpr (NullExpr at) = Unit {0}
  NamesExpr (BoolExpr at truth) = Unit {0}
  NamesExpr (IntExpr at number) = Unit {0}
  NamesExpr (VarExpr at x) = Unit {0}
  NamesExpr (CallExpr at routine args) = NameExprs args
  NamesExpr (NegExpr at a) = NamesExpr a
  NamesExpr (NotExpr at a) = NamesExpr a
  NamesExpr (LenExpr at a) = NamesExpr a
  NamesExpr (BinaryExpr at op a b) = NamesExpr a × NamesExpr b
  NamesExpr (IsExpr at a ty) = NamesExpr a × NamesTy ty
  NamesExpr (IndexExpr at a b) = NamesExpr a × NamesExpr b
  NamesExpr (FieldExpr at a name) = NamesExpr a × IsName name
  NamesExpr (ListExpr at items) = NameExprs items
  NamesExpr (RepeatExpr at a b) = NamesExpr a × NamesExpr b
  NamesExpr (RecordExpr at fs) = AreFields (names_in fs) × NameFields fs
  NamesExpr (QuantExpr at all x a b body) = NamesExpr a × (NamesExpr b × NamesExpr body)

  pub NameExprs : Exprs ℕ → Type 0
  NameExprs NoExprs = Unit {0}
  NameExprs (MoreExprs e es) = NamesExpr e × NameExprs es

  pub NameFields : Fields ℕ → Type 0
  NameFields NoFields = Unit {0}
  NameFields (MoreFields name e fs) = NamesExpr e × NameFields fs

abbrev pub NamesOption : Option (Expr ℕ) → Type 0
NamesOption None = Unit {0}
NamesOption (Some e) = NamesExpr e

abbrev pub NamesPath : List (Step ℕ) → Type 0
NamesPath [] = Unit {0}
NamesPath (IndexStep at e ∷ path) = NamesExpr e × NamesPath path
NamesPath (FieldStep at name ∷ path) = IsName name × NamesPath path

abbrev mutual
  -- those that the machine runs
  pub NamesStmt : Stmt ℕ → Type 0
  NamesStmt (DeclareStmt at ty x value) = NamesOption value
  NamesStmt (AssignStmt at x path e) = NamesPath path × NamesExpr e
  NamesStmt (CallStmt at routine args) = NameExprs args
  NamesStmt (ReturnStmt at value) = NamesOption value
  NamesStmt (AssertStmt at e) = Unit {0}
  NamesStmt (BreakStmt at) = Unit {0}
  NamesStmt (ContinueStmt at) = Unit {0}
  NamesStmt (SkipStmt at) = Unit {0}
  NamesStmt (FailStmt at) = Unit {0}
  NamesStmt (IfStmt at e first second) = NamesExpr e × (NameStmts first × NameStmts second)
  NamesStmt (WhileStmt at e invariants body) = NamesExpr e × NameStmts body

  pub NameStmts : Stmts ℕ → Type 0
  NameStmts NoStmts = Unit {0}
  NameStmts (MoreStmts st rest) = NamesStmt st × NameStmts rest

abbrev pub NamesDecl : Decl ℕ → Type 0
NamesDecl (AliasDecl a) = NamesTy a.ty × NameExprs (tree.exprs_of a.clauses)
NamesDecl (RoutineDecl r) = NameStmts r.body

abbrev pub HasFields : Core ℕ → Type 0
HasFields [] = Unit {0}
HasFields (d ∷ ds) = NamesDecl d × HasFields ds
