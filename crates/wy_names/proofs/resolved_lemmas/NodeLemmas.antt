-- The walk that binds names notes exactly the faults that nodes show by themselves.
use Rattle.std.proofs.Common.{ℕ, Bool, true, false, not, ◌&&◌, ◌==◌, List, [], ◌∷◌, Option, Some, None}
use Rattle.std.specs.Prelude.{is_some}
use Rattle.wy_ast.specs.SurfaceTree.{Ty, FieldTys, NullTy, BoolTy, IntTy, AnyTy, VoidTy, RecordTy, ArrayTy, UnionTy, InterTy, NotTy, NamedTy, NoFieldTys, MoreFieldTys}
use Rattle.wy_ast.specs.SurfaceTree.{Expr, Exprs, Fields, Ranges, NullExpr, BoolExpr, IntExpr, TextExpr, VarExpr, CallExpr, NegExpr, NotExpr, LenExpr, BinaryExpr, IsExpr, IndexExpr, FieldExpr, ListExpr, RepeatExpr, RecordExpr, QuantExpr, NoExprs, MoreExprs, NoFields, MoreFields, NoRanges, MoreRanges}
use Rattle.wy_ast.specs.SurfaceTree.{Step, IndexStep, FieldStep, Stmt, Stmts, Cases, DeclareStmt, AssignStmt, CallStmt, ReturnStmt, AssertStmt, BreakStmt, ContinueStmt, SkipStmt, FailStmt, IfStmt, WhileStmt, DoStmt, ForStmt, SwitchStmt, SwitchElseStmt, NoStmts, MoreStmts, NoCases, MoreCases, exprs_of}
use Rattle.wy_ast.specs.SurfaceTree.{Param, Function, Method, Decl, AliasDecl, FunctionDecl, MethodDecl, PropertyDecl}
use Rattle.wy_names_scope.specs.declared.fault.Cause.TheVariants as cause
use Rattle.wy_names_scope.specs.declared.table.Entry.{Entry}
use Rattle.wy_names_scope.specs.declared.table.Entry.TheVariants as entry
use Rattle.wy_names_scope.specs.declared.table.Signature.{Signature}
use Rattle.wy_names_scope.specs.Faults.{Found}
use Rattle.wy_names_scope.specs.Places.{place_of_ty, place_of_expr}
use Rattle.wy_names_scope.specs.Scope.{Scope, entry_of, has, with_name}
use Rattle.wy_names_recursion.specs.declared.context.Context.{Context}
use Rattle.wy_names_recursion.specs.Calls as calls
use Rattle.wy_names_recursion.specs.Calls.{contract, looped, is_type, is_variable}
use Rattle.wy_names_recursion.specs.TypeNames as types
use Rattle.wy_names_recursion.specs.TypeNames.{just_a_name}
use Rattle.wy_names_recursion.specs.ExprNames as exprs
use Rattle.wy_names_recursion.specs.ExprNames.{count_of, with_ranges}
use Rattle.wy_names_recursion.specs.StmtNames as stmts
use Rattle.wy_names_recursion.specs.StmtNames.{differ, scope_behind}
use Rattle.wy_names_recursion.specs.DeclNames as decls
use Rattle.wy_names_recursion.specs.DeclNames.{clause_context, routine_context, with_params}
use Rattle.wy_names.specs.resolved.Nodes.{InTy, InFieldTys, OfRoutine, OfEntry, OfCall, InExpr, InExprs, InFields, InRanges, InOption, InPath, InStmt, InStmts, InCases, InClauses, InParams, InsideFunction, InOutcome, InsideMethod, InDecl, InDecls}
use Rattle.wy_names.proofs.resolved_lemmas.NotesLemmas.{Notes, nothing, both, one}

mutual
  ty_notes : (s : Scope) (t : Ty) (x : Found) → Notes (InTy s t) x (types.in_ty s t x)
  ty_notes s (NullTy at) x = nothing x
  ty_notes s (BoolTy at) x = nothing x
  ty_notes s (IntTy at) x = nothing x
  ty_notes s (AnyTy at) x = nothing x
  ty_notes s (VoidTy at) x = nothing x
  ty_notes s (RecordTy at fs) x = field_tys_note s [] fs x
  ty_notes s (ArrayTy at item) x = ty_notes s item x
  ty_notes s (UnionTy at a b) x = both (ty_notes s a x) (ty_notes s b (types.in_ty s a x))
  ty_notes s (InterTy at a b) x = both (ty_notes s a x) (ty_notes s b (types.in_ty s a x))
  ty_notes s (NotTy at t) x = ty_notes s t x
  ty_notes s (NamedTy at name) x = one (not (is_type (entry_of s name))) x at cause.Unknown

  field_tys_note : (s seen : Scope) (fs : FieldTys) (x : Found) → Notes (InFieldTys s seen fs) x (types.in_fields s seen fs x)
  field_tys_note s seen NoFieldTys x = nothing x
  field_tys_note s seen (MoreFieldTys name t rest) x =
      both (ty_notes s t x) (both (one (has seen name) (types.in_ty s t x) (place_of_ty t) cause.Twice) (field_tys_note s (with_name seen name just_a_name) rest _))

routine_notes : (c : Context) (v : Bool) (s : Signature) (count at : ℕ) (x : Found) → Notes (OfRoutine c v s count at) x (calls.call_routine c v s count at x)
routine_notes c v s count at x =
    both (one c.is_contract x at cause.CallInContract)
    (both (one (s.is_method && c.is_function) _ at cause.MethodInFunction)
    (both (one (not (count == s.arity)) _ at cause.Arity)
    (one (v && not s.has_result) _ at cause.Arity)))

entry_notes : (c : Context) (v : Bool) (e : Entry) (count at : ℕ) (x : Found) → Notes (OfEntry c v e count at) x (calls.call_entry c v e count at x)
entry_notes c v (entry.Type n decl) count at x = one true x at cause.Unknown
entry_notes c v (entry.Routine s) count at x = routine_notes c v s count at x
entry_notes c true (entry.Property decl arity) count at x = one (not (count == arity)) x at cause.Arity
entry_notes c false (entry.Property decl arity) count at x = one true x at cause.Unknown
entry_notes c v (entry.Variable n) count at x = one true x at cause.Unknown

call_notes : (c : Context) (v : Bool) (e : Option Entry) (count at : ℕ) (x : Found) → Notes (OfCall c v e count at) x (calls.call c v e count at x)
call_notes c v None count at x = one true x at cause.Unknown
call_notes c v (Some e) count at x = entry_notes c v e count at x

mutual
  expr_notes : (c : Context) (s : Scope) (e : Expr) (x : Found) → Notes (InExpr c s e) x (exprs.in_expr c s e x)
  expr_notes c s (NullExpr at) x = nothing x
  expr_notes c s (BoolExpr at b) x = nothing x
  expr_notes c s (IntExpr at z) x = nothing x
  expr_notes c s (TextExpr at bytes) x = nothing x
  expr_notes c s (VarExpr at name) x = one (not (is_variable (entry_of s name))) x at cause.Unknown
  expr_notes c s (CallExpr at name args) x =
      both (call_notes c true (entry_of s name) (count_of args) at x) (exprs_note c s args _)
  expr_notes c s (NegExpr at a) x = expr_notes c s a x
  expr_notes c s (NotExpr at a) x = expr_notes c s a x
  expr_notes c s (LenExpr at a) x = expr_notes c s a x
  expr_notes c s (BinaryExpr at op a b) x = both (expr_notes c s a x) (expr_notes c s b _)
  expr_notes c s (IsExpr at a t) x = both (expr_notes c s a x) (ty_notes s t _)
  expr_notes c s (IndexExpr at a b) x = both (expr_notes c s a x) (expr_notes c s b _)
  expr_notes c s (FieldExpr at a name) x = expr_notes c s a x
  expr_notes c s (ListExpr at items) x = exprs_note c s items x
  expr_notes c s (RepeatExpr at a b) x = both (expr_notes c s a x) (expr_notes c s b _)
  expr_notes c s (RecordExpr at fs) x = fields_note c s [] fs x
  expr_notes c s (QuantExpr at all rs body) x = both (ranges_note (contract c) s at rs x) (expr_notes (contract c) (with_ranges s rs) body _)

  exprs_note : (c : Context) (s : Scope) (es : Exprs) (x : Found) → Notes (InExprs c s es) x (exprs.in_exprs c s es x)
  exprs_note c s NoExprs x = nothing x
  exprs_note c s (MoreExprs e rest) x = both (expr_notes c s e x) (exprs_note c s rest _)

  fields_note : (c : Context) (s seen : Scope) (fs : Fields) (x : Found) → Notes (InFields c s seen fs) x (exprs.in_fields c s seen fs x)
  fields_note c s seen NoFields x = nothing x
  fields_note c s seen (MoreFields name e rest) x =
      both (expr_notes c s e x) (both (one (has seen name) _ (place_of_expr e) cause.Twice) (fields_note c s (with_name seen name just_a_name) rest _))

  ranges_note : (c : Context) (s : Scope) (at : ℕ) (rs : Ranges) (x : Found) → Notes (InRanges c s at rs) x (exprs.in_ranges c s at rs x)
  ranges_note c s at NoRanges x = nothing x
  ranges_note c s at (MoreRanges name from to rest) x =
      both (expr_notes c s from x) (both (expr_notes c s to _) (both (one (has s name) _ at cause.Twice) (ranges_note c (with_name s name just_a_name) at rest _)))

option_notes : (c : Context) (s : Scope) (e : Option Expr) (x : Found) → Notes (InOption c s e) x (stmts.in_option c s e x)
option_notes c s None x = nothing x
option_notes c s (Some e) x = expr_notes c s e x

path_notes : (c : Context) (s : Scope) (steps : List Step) (x : Found) → Notes (InPath c s steps) x (stmts.in_path c s steps x)
path_notes c s [] x = nothing x
path_notes c s (IndexStep at e ∷ steps) x = both (expr_notes c s e x) (path_notes c s steps _)
path_notes c s (FieldStep at name ∷ steps) x = path_notes c s steps x

mutual
  stmt_notes : (c : Context) (s : Scope) (t : Stmt) (x : Found) → Notes (InStmt c s t) x (stmts.in_stmt c s t x)
  stmt_notes c s (DeclareStmt at ty name value) x = both (ty_notes s ty x) (both (option_notes c s value _) (one (has s name) _ at cause.Twice))
  stmt_notes c s (AssignStmt at name path value) x =
      both (one (not (is_variable (entry_of s name))) x at cause.Unknown) (both (path_notes c s path _) (expr_notes c s value _))
  stmt_notes c s (CallStmt at name args) x = both (call_notes c false (entry_of s name) (count_of args) at x) (exprs_note c s args _)
  stmt_notes c s (ReturnStmt at value) x = both (one (differ (is_some value) c.has_result) x at cause.Arity) (option_notes c s value _)
  stmt_notes c s (AssertStmt at test) x = expr_notes (contract c) s test x
  stmt_notes c s (BreakStmt at) x = one (not c.in_loop) x at cause.OutsideLoop
  stmt_notes c s (ContinueStmt at) x = one (not c.in_loop) x at cause.OutsideLoop
  stmt_notes c s (SkipStmt at) x = nothing x
  stmt_notes c s (FailStmt at) x = nothing x
  stmt_notes c s (IfStmt at test first second) x = both (expr_notes c s test x) (both (stmts_note c s first _) (stmts_note c s second _))
  stmt_notes c s (WhileStmt at test invariants body) x =
      both (expr_notes c s test x) (both (exprs_note (contract c) s (exprs_of invariants) _) (stmts_note (looped c) s body _))
  stmt_notes c s (DoStmt at body test invariants) x =
      both (stmts_note (looped c) s body x) (both (expr_notes c s test _) (exprs_note (contract c) s (exprs_of invariants) _))
  stmt_notes c s (ForStmt at name from to invariants body) x =
      both (expr_notes c s from x)
      (both (expr_notes c s to _)
      (both (one (has s name) _ at cause.Twice)
      (both (exprs_note (contract c) (with_name s name just_a_name) (exprs_of invariants) _) (stmts_note (looped c) (with_name s name just_a_name) body _))))
  stmt_notes c s (SwitchStmt at value cs) x = both (expr_notes c s value x) (cases_note c s cs _)
  stmt_notes c s (SwitchElseStmt at value cs default) x = both (expr_notes c s value x) (both (cases_note c s cs _) (stmts_note c s default _))

  stmts_note : (c : Context) (s : Scope) (ts : Stmts) (x : Found) → Notes (InStmts c s ts) x (stmts.in_stmts c s ts x)
  stmts_note c s NoStmts x = nothing x
  stmts_note c s (MoreStmts t rest) x = both (stmt_notes c s t x) (stmts_note c (scope_behind s t) rest _)

  cases_note : (c : Context) (s : Scope) (cs : Cases) (x : Found) → Notes (InCases c s cs) x (stmts.in_cases c s cs x)
  cases_note c s NoCases x = nothing x
  cases_note c s (MoreCases labels body rest) x = both (exprs_note c s (exprs_of labels) x) (both (stmts_note c s body _) (cases_note c s rest _))

clauses_note : (c : Context) (s : Scope) (at : ℕ) (name : Option (List ℕ)) (clauses : List Expr) (x : Found) → Notes (InClauses c s at name clauses) x (decls.in_clauses c s at name clauses x)
clauses_note c s at None clauses x = exprs_note c s (exprs_of clauses) x
clauses_note c s at (Some name) clauses x = both (one (has s name) x at cause.Twice) (exprs_note c (with_name s name just_a_name) (exprs_of clauses) _)

params_note : (s : Scope) (ps : List Param) (x : Found) → Notes (InParams s ps) x (decls.in_params s ps x)
params_note s [] x = nothing x
params_note s (p ∷ ps) x = both (ty_notes s p.ty x) (both (one (has s p.name) _ (place_of_ty p.ty) cause.Twice) (params_note (with_name s p.name just_a_name) ps _))

outcome_notes : (s : Scope) (r : Option (Ty × Option (List ℕ))) (before after : List Expr) (x : Found) → Notes (InOutcome s r before after) x (decls.in_outcome_of s r before after x)
outcome_notes s None before after x =
    both (exprs_note (routine_context false false true) s (exprs_of before) x) (exprs_note (routine_context false false true) s (exprs_of after) _)
outcome_notes s (Some r) before after x =
    both (ty_notes s r.0 x)
    (both (exprs_note (routine_context false true true) s (exprs_of before) _)
    (clauses_note (routine_context false true true) s (place_of_ty r.0) r.1 after _))

function_notes : (s : Scope) (f : Function) (x : Found) → Notes (InsideFunction s f) x (decls.inside_function s f x)
function_notes s f x =
    both (ty_notes s f.result x)
    (both (exprs_note (routine_context true true true) s (exprs_of f.preconditions) _)
    (both (clauses_note (routine_context true true true) s (place_of_ty f.result) f.result_name f.postconditions _)
    (stmts_note (routine_context true true false) s f.body _)))

method_notes : (s : Scope) (m : Method) (x : Found) → Notes (InsideMethod s m) x (decls.inside_method s m x)
method_notes s m x = both (outcome_notes s m.result m.preconditions m.postconditions x) (stmts_note (routine_context false (is_some m.result) false) s m.body _)

decl_notes : (s : Scope) (d : Decl) (x : Found) → Notes (InDecl s d) x (decls.in_decl s d x)
decl_notes s (AliasDecl a) x = both (ty_notes s a.ty x) (clauses_note clause_context s (place_of_ty a.ty) a.variable a.clauses _)
decl_notes s (FunctionDecl f) x = both (params_note s f.params x) (function_notes (with_params s f.params) f _)
decl_notes s (MethodDecl m) x = both (params_note s m.params x) (method_notes (with_params s m.params) m _)
decl_notes s (PropertyDecl p) x = both (params_note s p.params x) (exprs_note clause_context (with_params s p.params) (exprs_of p.clauses) _)

pub decls_note : (s : Scope) (ds : List Decl) (x : Found) → Notes (InDecls s ds) x (decls.in_decls s ds x)
decls_note s [] x = nothing x
decls_note s (d ∷ ds) x = both (decl_notes s d x) (decls_note s ds _)
