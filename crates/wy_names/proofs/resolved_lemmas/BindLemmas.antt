-- Where no fault of names is left behind a node, none was found before it.
use Rattle.std.proofs.Common.{◌≡◌, ℕ, Bool, true, false, not, ◌&&◌, ◌==◌, List, [], ◌∷◌, Option, Some, None, is_some, if◌then◌else◌}
use Rattle.wy_ast.specs.SurfaceTree.{Ty, FieldTys, NullTy, BoolTy, IntTy, AnyTy, VoidTy, RecordTy, ArrayTy, UnionTy, InterTy, NotTy, NamedTy, NoFieldTys, MoreFieldTys}
use Rattle.wy_ast.specs.SurfaceTree.{Expr, Exprs, Fields, Ranges, NullExpr, BoolExpr, IntExpr, TextExpr, VarExpr, CallExpr, NegExpr, NotExpr, LenExpr, BinaryExpr, IsExpr, IndexExpr, FieldExpr, ListExpr, RepeatExpr, RecordExpr, QuantExpr, NoExprs, MoreExprs, NoFields, MoreFields, NoRanges, MoreRanges}
use Rattle.wy_ast.specs.SurfaceTree.{Step, IndexStep, FieldStep, Stmt, Stmts, Cases, DeclareStmt, AssignStmt, CallStmt, ReturnStmt, AssertStmt, BreakStmt, ContinueStmt, SkipStmt, FailStmt, IfStmt, WhileStmt, DoStmt, ForStmt, SwitchStmt, SwitchElseStmt, NoStmts, MoreStmts, NoCases, MoreCases, exprs_of}
use Rattle.wy_names_scope.specs.declared.fault.Cause.TheVariants as cause
use Rattle.wy_names_scope.specs.declared.table.Entry.{Entry}
use Rattle.wy_names_scope.specs.declared.table.Entry.TheVariants as entry
use Rattle.wy_names_scope.specs.declared.table.Signature.{Signature}
use Rattle.wy_names_scope.specs.Faults.{Found, noted, noted_where}
use Rattle.wy_names_scope.specs.Places.{place_of_ty, place_of_expr}
use Rattle.wy_names_scope.specs.Scope.{Scope, entry_of, has, with_name}
use Rattle.wy_names_recursion.specs.declared.context.Context.{Context}
use Rattle.wy_names_recursion.specs.Calls.{contract, looped, call, call_routine, is_variable, is_type}
use Rattle.wy_names_recursion.specs.TypeNames as types
use Rattle.wy_names_recursion.specs.TypeNames.{just_a_name}
use Rattle.wy_names_recursion.specs.ExprNames as exprs
use Rattle.wy_names_recursion.specs.ExprNames.{count_of, with_ranges}
use Rattle.wy_names_recursion.specs.StmtNames as stmts
use Rattle.wy_names_recursion.specs.StmtNames.{scope_behind, differ}
use Rattle.wy_names.proofs.resolved_lemmas.NotedLemmas.{none_noted, noted_none}

mutual
  pub before_ty : (b : Scope) (t : Ty) (found : Found) → types.in_ty b t found ≡ None → found ≡ None
  before_ty b (NullTy at) found h = h
  before_ty b (BoolTy at) found h = h
  before_ty b (IntTy at) found h = h
  before_ty b (AnyTy at) found h = h
  before_ty b (VoidTy at) found h = h
  before_ty b (RecordTy at fs) found h = before_field_tys b [] fs found h
  before_ty b (ArrayTy at item) found h = before_ty b item found h
  before_ty b (UnionTy at x y) found h = before_ty b x found (before_ty b y (types.in_ty b x found) h)
  before_ty b (InterTy at x y) found h = before_ty b x found (before_ty b y (types.in_ty b x found) h)
  before_ty b (NotTy at t) found h = before_ty b t found h
  before_ty b (NamedTy at name) found h = (noted_none (not (is_type (entry_of b name))) found at cause.Unknown h).0

  pub before_field_tys : (b seen : Scope) (fs : FieldTys) (found : Found) → types.in_fields b seen fs found ≡ None → found ≡ None
  before_field_tys b seen NoFieldTys found h = h
  before_field_tys b seen (MoreFieldTys name t rest) found h =
      before_ty b t found
      (noted_none (has seen name) (types.in_ty b t found) (place_of_ty t) cause.Twice
      (before_field_tys b (with_name seen name just_a_name) rest (noted_where (has seen name) (types.in_ty b t found) (place_of_ty t) cause.Twice) h)).0

-- the same behind the first type
pub field_ty : (b seen : Scope) (name : List ℕ) (t : Ty) (rest : FieldTys) (found : Found) → types.in_fields b seen (MoreFieldTys name t rest) found ≡ None → types.in_ty b t found ≡ None
field_ty b seen name t rest found h =
    (noted_none (has seen name) (types.in_ty b t found) (place_of_ty t) cause.Twice
    (before_field_tys b (with_name seen name just_a_name) rest (noted_where (has seen name) (types.in_ty b t found) (place_of_ty t) cause.Twice) h)).0

-- what a call of a function or method owes
pub record Owed (c : Context) (for_value : Bool) (s : Signature) (count : ℕ) : Type 0 where
  pub value : (for_value && not s.has_result) ≡ false
  pub arity : not (count == s.arity) ≡ false
  pub method : (s.is_method && c.is_function) ≡ false
  pub contract : c.is_contract ≡ false

pub of_routine : (c : Context) (v : Bool) (s : Signature) (count at : ℕ) (found : Found) → call_routine c v s count at found ≡ None → (found ≡ None) × Owed c v s count
of_routine c v s count at found h =
    let first : Found = noted_where c.is_contract found at cause.CallInContract in
    let second : Found = noted_where (s.is_method && c.is_function) first at cause.MethodInFunction in
    let third : Found = noted_where (not (count == s.arity)) second at cause.Arity in
    let a = noted_none (v && not s.has_result) third at cause.Arity h in
    let b = noted_none (not (count == s.arity)) second at cause.Arity a.0 in
    let d = noted_none (s.is_method && c.is_function) first at cause.MethodInFunction b.0 in
    let e = noted_none c.is_contract found at cause.CallInContract d.0 in
    (e.0, record { value = a.1; arity = b.1; method = d.1; contract = e.1 })

before_property : (v : Bool) (count arity at : ℕ) (found : Found)
    → (if v then noted_where (not (count == arity)) found at cause.Arity else noted found at cause.Unknown) ≡ None → found ≡ None
before_property true count arity at found h = (noted_none (not (count == arity)) found at cause.Arity h).0
before_property false count arity at found h = absurd (none_noted found at cause.Unknown h)

before_call : (c : Context) (v : Bool) (o : Option Entry) (count at : ℕ) (found : Found) → call c v o count at found ≡ None → found ≡ None
before_call c v None count at found h = absurd (none_noted found at cause.Unknown h)
before_call c v (Some (entry.Type n decl)) count at found h = absurd (none_noted found at cause.Unknown h)
before_call c v (Some (entry.Routine s)) count at found h = (of_routine c v s count at found h).0
before_call c v (Some (entry.Property decl arity)) count at found h = before_property v count arity at found h
before_call c v (Some (entry.Variable n)) count at found h = absurd (none_noted found at cause.Unknown h)

mutual
  pub before_expr : (c : Context) (b : Scope) (e : Expr) (found : Found) → exprs.in_expr c b e found ≡ None → found ≡ None
  before_expr c b (NullExpr at) found h = h
  before_expr c b (BoolExpr at truth) found h = h
  before_expr c b (IntExpr at z) found h = h
  before_expr c b (TextExpr at bytes) found h = h
  before_expr c b (VarExpr at name) found h = (noted_none (not (is_variable (entry_of b name))) found at cause.Unknown h).0
  before_expr c b (CallExpr at name args) found h =
      before_call c true (entry_of b name) (count_of args) at found (before_exprs c b args (call c true (entry_of b name) (count_of args) at found) h)
  before_expr c b (NegExpr at x) found h = before_expr c b x found h
  before_expr c b (NotExpr at x) found h = before_expr c b x found h
  before_expr c b (LenExpr at x) found h = before_expr c b x found h
  before_expr c b (BinaryExpr at op x y) found h = before_expr c b x found (before_expr c b y (exprs.in_expr c b x found) h)
  before_expr c b (IsExpr at x t) found h = before_expr c b x found (before_ty b t (exprs.in_expr c b x found) h)
  before_expr c b (IndexExpr at x y) found h = before_expr c b x found (before_expr c b y (exprs.in_expr c b x found) h)
  before_expr c b (FieldExpr at x name) found h = before_expr c b x found h
  before_expr c b (ListExpr at items) found h = before_exprs c b items found h
  before_expr c b (RepeatExpr at x y) found h = before_expr c b x found (before_expr c b y (exprs.in_expr c b x found) h)
  before_expr c b (RecordExpr at fs) found h = before_fields c b [] fs found h
  before_expr c b (QuantExpr at all rs body) found h =
      before_ranges (contract c) b at rs found (before_expr (contract c) (with_ranges b rs) body (exprs.in_ranges (contract c) b at rs found) h)

  pub before_exprs : (c : Context) (b : Scope) (es : Exprs) (found : Found) → exprs.in_exprs c b es found ≡ None → found ≡ None
  before_exprs c b NoExprs found h = h
  before_exprs c b (MoreExprs e rest) found h = before_expr c b e found (before_exprs c b rest (exprs.in_expr c b e found) h)

  pub before_fields : (c : Context) (b seen : Scope) (fs : Fields) (found : Found) → exprs.in_fields c b seen fs found ≡ None → found ≡ None
  before_fields c b seen NoFields found h = h
  before_fields c b seen (MoreFields name e rest) found h =
      before_expr c b e found
      (noted_none (has seen name) (exprs.in_expr c b e found) (place_of_expr e) cause.Twice
      (before_fields c b (with_name seen name just_a_name) rest (noted_where (has seen name) (exprs.in_expr c b e found) (place_of_expr e) cause.Twice) h)).0

  pub before_ranges : (c : Context) (b : Scope) (at : ℕ) (rs : Ranges) (found : Found) → exprs.in_ranges c b at rs found ≡ None → found ≡ None
  before_ranges c b at NoRanges found h = h
  before_ranges c b at (MoreRanges name x y rest) found h =
      let ends : Found = exprs.in_expr c b y (exprs.in_expr c b x found) in
      before_expr c b x found
      (before_expr c b y (exprs.in_expr c b x found)
      (noted_none (has b name) ends at cause.Twice (before_ranges c (with_name b name just_a_name) at rest (noted_where (has b name) ends at cause.Twice) h)).0)

-- the same behind the first value
pub field_value : (c : Context) (b seen : Scope) (name : List ℕ) (e : Expr) (rest : Fields) (found : Found) → exprs.in_fields c b seen (MoreFields name e rest) found ≡ None → exprs.in_expr c b e found ≡ None
field_value c b seen name e rest found h =
    (noted_none (has seen name) (exprs.in_expr c b e found) (place_of_expr e) cause.Twice
    (before_fields c b (with_name seen name just_a_name) rest (noted_where (has seen name) (exprs.in_expr c b e found) (place_of_expr e) cause.Twice) h)).0

-- the same behind the ends of the first range
pub range_ends : (c : Context) (b : Scope) (at : ℕ) (name : List ℕ) (x y : Expr) (rest : Ranges) (found : Found) → exprs.in_ranges c b at (MoreRanges name x y rest) found ≡ None
    → exprs.in_expr c b y (exprs.in_expr c b x found) ≡ None
range_ends c b at name x y rest found h =
    let ends : Found = exprs.in_expr c b y (exprs.in_expr c b x found) in
    (noted_none (has b name) ends at cause.Twice (before_ranges c (with_name b name just_a_name) at rest (noted_where (has b name) ends at cause.Twice) h)).0

pub before_option : (c : Context) (b : Scope) (o : Option Expr) (found : Found) → stmts.in_option c b o found ≡ None → found ≡ None
before_option c b None found h = h
before_option c b (Some e) found h = before_expr c b e found h

pub before_path : (c : Context) (b : Scope) (steps : List Step) (found : Found) → stmts.in_path c b steps found ≡ None → found ≡ None
before_path c b [] found h = h
before_path c b (IndexStep at e ∷ steps) found h = before_expr c b e found (before_path c b steps (exprs.in_expr c b e found) h)
before_path c b (FieldStep at name ∷ steps) found h = before_path c b steps found h

mutual
  pub before_stmt : (c : Context) (b : Scope) (x : Stmt) (found : Found) → stmts.in_stmt c b x found ≡ None → found ≡ None
  before_stmt c b (DeclareStmt at t name value) found h =
      before_ty b t found (before_option c b value (types.in_ty b t found) (noted_none (has b name) (stmts.in_option c b value (types.in_ty b t found)) at cause.Twice h).0)
  before_stmt c b (AssignStmt at name path value) found h =
      let first : Found = noted_where (not (is_variable (entry_of b name))) found at cause.Unknown in
      (noted_none (not (is_variable (entry_of b name))) found at cause.Unknown (before_path c b path first (before_expr c b value (stmts.in_path c b path first) h))).0
  before_stmt c b (CallStmt at name args) found h =
      before_call c false (entry_of b name) (count_of args) at found (before_exprs c b args (call c false (entry_of b name) (count_of args) at found) h)
  before_stmt c b (ReturnStmt at value) found h =
      let first : Found = noted_where (differ (is_some value) c.has_result) found at cause.Arity in
      (noted_none (differ (is_some value) c.has_result) found at cause.Arity (before_option c b value first h)).0
  before_stmt c b (AssertStmt at test) found h = before_expr (contract c) b test found h
  before_stmt c b (BreakStmt at) found h = (noted_none (not c.in_loop) found at cause.OutsideLoop h).0
  before_stmt c b (ContinueStmt at) found h = (noted_none (not c.in_loop) found at cause.OutsideLoop h).0
  before_stmt c b (SkipStmt at) found h = h
  before_stmt c b (FailStmt at) found h = h
  before_stmt c b (IfStmt at test first second) found h =
      before_expr c b test found (before_stmts c b first (exprs.in_expr c b test found) (before_stmts c b second (stmts.in_stmts c b first (exprs.in_expr c b test found)) h))
  before_stmt c b (WhileStmt at test invariants body) found h =
      before_expr c b test found
      (before_exprs (contract c) b (exprs_of invariants) (exprs.in_expr c b test found)
      (before_stmts (looped c) b body (exprs.in_exprs (contract c) b (exprs_of invariants) (exprs.in_expr c b test found)) h))
  before_stmt c b (DoStmt at body test invariants) found h =
      before_stmts (looped c) b body found
      (before_expr c b test (stmts.in_stmts (looped c) b body found)
      (before_exprs (contract c) b (exprs_of invariants) (exprs.in_expr c b test (stmts.in_stmts (looped c) b body found)) h))
  before_stmt c b (ForStmt at name from to invariants body) found h =
      let ends : Found = exprs.in_expr c b to (exprs.in_expr c b from found) in
      let named : Found = noted_where (has b name) ends at cause.Twice in
      let inner : Scope = with_name b name just_a_name in
      before_expr c b from found
      (before_expr c b to (exprs.in_expr c b from found)
      (noted_none (has b name) ends at cause.Twice
      (before_exprs (contract c) inner (exprs_of invariants) named (before_stmts (looped c) inner body (exprs.in_exprs (contract c) inner (exprs_of invariants) named) h))).0)
  before_stmt c b (SwitchStmt at value cs) found h = before_expr c b value found (before_cases c b cs (exprs.in_expr c b value found) h)
  before_stmt c b (SwitchElseStmt at value cs default) found h =
      before_expr c b value found (before_cases c b cs (exprs.in_expr c b value found) (before_stmts c b default (stmts.in_cases c b cs (exprs.in_expr c b value found)) h))

  pub before_stmts : (c : Context) (b : Scope) (xs : Stmts) (found : Found) → stmts.in_stmts c b xs found ≡ None → found ≡ None
  before_stmts c b NoStmts found h = h
  before_stmts c b (MoreStmts x rest) found h = before_stmt c b x found (before_stmts c (scope_behind b x) rest (stmts.in_stmt c b x found) h)

  pub before_cases : (c : Context) (b : Scope) (cs : Cases) (found : Found) → stmts.in_cases c b cs found ≡ None → found ≡ None
  before_cases c b NoCases found h = h
  before_cases c b (MoreCases labels body rest) found h =
      before_exprs c b (exprs_of labels) found
      (before_stmts c b body (exprs.in_exprs c b (exprs_of labels) found)
      (before_cases c b rest (stmts.in_stmts c b body (exprs.in_exprs c b (exprs_of labels) found)) h))
