-- Which faults the nodes of a program show by themselves: that is, by the names in scope there and by what stands around them.
use Rattle.std.specs.Prelude.{ℕ, Bool, true, false, not, ◌&&◌, ◌==◌, List, [], ◌∷◌, Option, Some, None, is_some}
use Rattle.wy_ast.specs.SurfaceTree.{Ty, FieldTys, NullTy, BoolTy, IntTy, AnyTy, VoidTy, RecordTy, ArrayTy, UnionTy, InterTy, NotTy, NamedTy, NoFieldTys, MoreFieldTys}
use Rattle.wy_ast.specs.SurfaceTree.{Expr, Exprs, Fields, Ranges, NullExpr, BoolExpr, IntExpr, TextExpr, VarExpr, CallExpr, NegExpr, NotExpr, LenExpr, BinaryExpr, IsExpr, IndexExpr, FieldExpr, ListExpr, RepeatExpr, RecordExpr, QuantExpr, NoExprs, MoreExprs, NoFields, MoreFields, NoRanges, MoreRanges}
use Rattle.wy_ast.specs.SurfaceTree.{Step, IndexStep, FieldStep, Stmt, Stmts, Cases, DeclareStmt, AssignStmt, CallStmt, ReturnStmt, AssertStmt, BreakStmt, ContinueStmt, SkipStmt, FailStmt, IfStmt, WhileStmt, DoStmt, ForStmt, SwitchStmt, SwitchElseStmt, NoStmts, MoreStmts, NoCases, MoreCases, exprs_of}
use Rattle.wy_ast.specs.SurfaceTree.{Param, Alias, Function, Method, Decl, AliasDecl, FunctionDecl, MethodDecl, PropertyDecl}
use Rattle.wy_names_scope.specs.declared.fault.Cause.TheVariants as cause
use Rattle.wy_names_scope.specs.declared.fault.Fault.{Fault}
use Rattle.wy_names_scope.specs.declared.table.Entry.{Entry}
use Rattle.wy_names_scope.specs.declared.table.Entry.TheVariants as entry
use Rattle.wy_names_scope.specs.declared.table.Signature.{Signature}
use Rattle.wy_names_scope.specs.Places.{place_of_ty, place_of_expr}
use Rattle.wy_names_scope.specs.Scope.{Scope, entry_of, has, with_name}
use Rattle.wy_names_recursion.specs.declared.context.Context.{Context}
use Rattle.wy_names_recursion.specs.Calls.{contract, looped, is_type, is_variable}
use Rattle.wy_names_recursion.specs.TypeNames.{just_a_name}
use Rattle.wy_names_recursion.specs.ExprNames.{count_of, with_ranges}
use Rattle.wy_names_recursion.specs.StmtNames.{differ, scope_behind}
use Rattle.wy_names_recursion.specs.DeclNames.{clause_context, routine_context, with_params}
use Rattle.wy_names.specs.resolved.Shown.{Stands, Never, Either}

-- ---- types

abbrev mutual
  -- a name of no type
  pub InTy : Scope → Ty → Fault → Type 0
  InTy s (NullTy at) = Never
  InTy s (BoolTy at) = Never
  InTy s (IntTy at) = Never
  InTy s (AnyTy at) = Never
  InTy s (VoidTy at) = Never
  InTy s (RecordTy at fs) = InFieldTys s [] fs
  InTy s (ArrayTy at item) = InTy s item
  InTy s (UnionTy at a b) = Either (InTy s a) (InTy s b)
  InTy s (InterTy at a b) = Either (InTy s a) (InTy s b)
  InTy s (NotTy at t) = InTy s t
  InTy s (NamedTy at name) = Stands (not (is_type (entry_of s name))) at cause.Unknown

  -- a field that stands behind one of the same name
  pub InFieldTys : Scope → Scope → FieldTys → Fault → Type 0
  InFieldTys s seen NoFieldTys = Never
  InFieldTys s seen (MoreFieldTys name t rest) =
      Either (InTy s t) (Either (Stands (has seen name) (place_of_ty t) cause.Twice) (InFieldTys s (with_name seen name just_a_name) rest))

-- ---- calls

-- of a function or method: in a contract; of a method in a function; with another number of values; for a result that it doesn't have
abbrev pub OfRoutine : Context → Bool → Signature → ℕ → ℕ → Fault → Type 0
OfRoutine c for_value s count at =
    Either (Stands c.is_contract at cause.CallInContract)
    (Either (Stands (s.is_method && c.is_function) at cause.MethodInFunction)
    (Either (Stands (not (count == s.arity)) at cause.Arity)
    (Stands (for_value && not s.has_result) at cause.Arity)))

-- of a property, whose uses are values and no statements
abbrev pub OfProperty : Bool → ℕ → ℕ → ℕ → Fault → Type 0
OfProperty true arity count at = Stands (not (count == arity)) at cause.Arity
OfProperty false arity count at = Stands true at cause.Unknown

abbrev pub OfEntry : Context → Bool → Entry → ℕ → ℕ → Fault → Type 0
OfEntry c for_value (entry.Type n decl) count at = Stands true at cause.Unknown
OfEntry c for_value (entry.Routine s) count at = OfRoutine c for_value s count at
OfEntry c for_value (entry.Property decl arity) count at = OfProperty for_value arity count at
OfEntry c for_value (entry.Variable n) count at = Stands true at cause.Unknown

-- what the name stands for is called
abbrev pub OfCall : Context → Bool → Option Entry → ℕ → ℕ → Fault → Type 0
OfCall c for_value None count at = Stands true at cause.Unknown
OfCall c for_value (Some e) count at = OfEntry c for_value e count at

-- ---- expressions

abbrev mutual
  pub InExpr : Context → Scope → Expr → Fault → Type 0
  InExpr c s (NullExpr at) = Never
  InExpr c s (BoolExpr at b) = Never
  InExpr c s (IntExpr at z) = Never
  InExpr c s (TextExpr at bytes) = Never
  InExpr c s (VarExpr at name) = Stands (not (is_variable (entry_of s name))) at cause.Unknown
  InExpr c s (CallExpr at name args) = Either (OfCall c true (entry_of s name) (count_of args) at) (InExprs c s args)
  InExpr c s (NegExpr at a) = InExpr c s a
  InExpr c s (NotExpr at a) = InExpr c s a
  InExpr c s (LenExpr at a) = InExpr c s a
  InExpr c s (BinaryExpr at op a b) = Either (InExpr c s a) (InExpr c s b)
  InExpr c s (IsExpr at a t) = Either (InExpr c s a) (InTy s t)
  InExpr c s (IndexExpr at a b) = Either (InExpr c s a) (InExpr c s b)
  InExpr c s (FieldExpr at a name) = InExpr c s a
  InExpr c s (ListExpr at items) = InExprs c s items
  InExpr c s (RepeatExpr at a b) = Either (InExpr c s a) (InExpr c s b)
  InExpr c s (RecordExpr at fs) = InFields c s [] fs
  InExpr c s (QuantExpr at all rs body) = Either (InRanges (contract c) s at rs) (InExpr (contract c) (with_ranges s rs) body)

  pub InExprs : Context → Scope → Exprs → Fault → Type 0
  InExprs c s NoExprs = Never
  InExprs c s (MoreExprs e rest) = Either (InExpr c s e) (InExprs c s rest)

  -- a field that stands behind one of the same name
  pub InFields : Context → Scope → Scope → Fields → Fault → Type 0
  InFields c s seen NoFields = Never
  InFields c s seen (MoreFields name e rest) =
      Either (InExpr c s e) (Either (Stands (has seen name) (place_of_expr e) cause.Twice) (InFields c s (with_name seen name just_a_name) rest))

  -- a variable whose name is in scope where the quantifier stands, or was given by a range before it
  pub InRanges : Context → Scope → ℕ → Ranges → Fault → Type 0
  InRanges c s at NoRanges = Never
  InRanges c s at (MoreRanges name from to rest) =
      Either (InExpr c s from) (Either (InExpr c s to) (Either (Stands (has s name) at cause.Twice) (InRanges c (with_name s name just_a_name) at rest)))

-- ---- statements

abbrev pub InOption : Context → Scope → Option Expr → Fault → Type 0
InOption c s None = Never
InOption c s (Some e) = InExpr c s e

abbrev pub InPath : Context → Scope → List Step → Fault → Type 0
InPath c s [] = Never
InPath c s (IndexStep at e ∷ steps) = Either (InExpr c s e) (InPath c s steps)
InPath c s (FieldStep at name ∷ steps) = InPath c s steps

abbrev mutual
  pub InStmt : Context → Scope → Stmt → Fault → Type 0
  InStmt c s (DeclareStmt at ty name value) = Either (InTy s ty) (Either (InOption c s value) (Stands (has s name) at cause.Twice))
  InStmt c s (AssignStmt at name path value) =
      Either (Stands (not (is_variable (entry_of s name))) at cause.Unknown) (Either (InPath c s path) (InExpr c s value))
  InStmt c s (CallStmt at name args) = Either (OfCall c false (entry_of s name) (count_of args) at) (InExprs c s args)
  InStmt c s (ReturnStmt at value) = Either (Stands (differ (is_some value) c.has_result) at cause.Arity) (InOption c s value)
  InStmt c s (AssertStmt at test) = InExpr (contract c) s test
  InStmt c s (BreakStmt at) = Stands (not c.in_loop) at cause.OutsideLoop
  InStmt c s (ContinueStmt at) = Stands (not c.in_loop) at cause.OutsideLoop
  InStmt c s (SkipStmt at) = Never
  InStmt c s (FailStmt at) = Never
  InStmt c s (IfStmt at test first second) = Either (InExpr c s test) (Either (InStmts c s first) (InStmts c s second))
  InStmt c s (WhileStmt at test invariants body) =
      Either (InExpr c s test) (Either (InExprs (contract c) s (exprs_of invariants)) (InStmts (looped c) s body))
  InStmt c s (DoStmt at body test invariants) =
      Either (InStmts (looped c) s body) (Either (InExpr c s test) (InExprs (contract c) s (exprs_of invariants)))
  InStmt c s (ForStmt at name from to invariants body) =
      Either (InExpr c s from)
      (Either (InExpr c s to)
      (Either (Stands (has s name) at cause.Twice)
      (Either (InExprs (contract c) (with_name s name just_a_name) (exprs_of invariants)) (InStmts (looped c) (with_name s name just_a_name) body))))
  InStmt c s (SwitchStmt at value cs) = Either (InExpr c s value) (InCases c s cs)
  InStmt c s (SwitchElseStmt at value cs default) = Either (InExpr c s value) (Either (InCases c s cs) (InStmts c s default))

  pub InStmts : Context → Scope → Stmts → Fault → Type 0
  InStmts c s NoStmts = Never
  InStmts c s (MoreStmts x rest) = Either (InStmt c s x) (InStmts c (scope_behind s x) rest)

  pub InCases : Context → Scope → Cases → Fault → Type 0
  InCases c s NoCases = Never
  InCases c s (MoreCases labels body rest) = Either (InExprs c s (exprs_of labels)) (Either (InStmts c s body) (InCases c s rest))

-- ---- declarations

-- clauses behind a variable that may be named, and whose type stands at the place
abbrev pub InClauses : Context → Scope → ℕ → Option (List ℕ) → List Expr → Fault → Type 0
InClauses c s at None clauses = InExprs c s (exprs_of clauses)
InClauses c s at (Some name) clauses = Either (Stands (has s name) at cause.Twice) (InExprs c (with_name s name just_a_name) (exprs_of clauses))

abbrev pub InParams : Scope → List Param → Fault → Type 0
InParams s [] = Never
InParams s (p ∷ ps) = Either (InTy s p.ty) (Either (Stands (has s p.name) (place_of_ty p.ty) cause.Twice) (InParams (with_name s p.name just_a_name) ps))

abbrev pub InAlias : Scope → Alias → Fault → Type 0
InAlias s a = Either (InTy s a.ty) (InClauses clause_context s (place_of_ty a.ty) a.variable a.clauses)

-- a function whose parameters are in scope: its result, its contract and its body
abbrev pub InsideFunction : Scope → Function → Fault → Type 0
InsideFunction s f =
    Either (InTy s f.result)
    (Either (InExprs (routine_context true true true) s (exprs_of f.preconditions))
    (Either (InClauses (routine_context true true true) s (place_of_ty f.result) f.result_name f.postconditions)
    (InStmts (routine_context true true false) s f.body)))

-- the result and the contract of a method whose parameters are in scope
abbrev pub InOutcome : Scope → Option (Ty × Option (List ℕ)) → List Expr → List Expr → Fault → Type 0
InOutcome s None preconditions postconditions =
    Either (InExprs (routine_context false false true) s (exprs_of preconditions)) (InExprs (routine_context false false true) s (exprs_of postconditions))
InOutcome s (Some r) preconditions postconditions =
    Either (InTy s r.0)
    (Either (InExprs (routine_context false true true) s (exprs_of preconditions))
    (InClauses (routine_context false true true) s (place_of_ty r.0) r.1 postconditions))

abbrev pub InsideMethod : Scope → Method → Fault → Type 0
InsideMethod s m = Either (InOutcome s m.result m.preconditions m.postconditions) (InStmts (routine_context false (is_some m.result) false) s m.body)

abbrev pub InDecl : Scope → Decl → Fault → Type 0
InDecl s (AliasDecl a) = InAlias s a
InDecl s (FunctionDecl f) = Either (InParams s f.params) (InsideFunction (with_params s f.params) f)
InDecl s (MethodDecl m) = Either (InParams s m.params) (InsideMethod (with_params s m.params) m)
InDecl s (PropertyDecl p) = Either (InParams s p.params) (InExprs clause_context (with_params s p.params) (exprs_of p.clauses))

-- the fault is shown by a node of one of these declarations, all of whose names are in scope
abbrev pub InDecls : Scope → List Decl → Fault → Type 0
InDecls s [] = Never
InDecls s (d ∷ ds) = Either (InDecl s d) (InDecls s ds)
