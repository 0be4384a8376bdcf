-- Each use stays in the list of uses as more are put behind it.
use Rattle.std.proofs.Common.{◌≡◌, ◌+◌, ℕ, zero, suc, List, [], ◌∷◌, ◌++◌, length, Option, Some, None, refl, subst, arith}
use Rattle.std.specs.List.{slice_get}
use Rattle.wy_ast.specs.SurfaceTree.{Ty, FieldTys, NullTy, BoolTy, IntTy, AnyTy, VoidTy, RecordTy, ArrayTy, UnionTy, InterTy, NotTy, NamedTy, NoFieldTys, MoreFieldTys}
use Rattle.wy_ast.specs.SurfaceTree.{Expr, Exprs, Fields, Ranges, NullExpr, BoolExpr, IntExpr, TextExpr, VarExpr, CallExpr, NegExpr, NotExpr, LenExpr, BinaryExpr, IsExpr, IndexExpr, FieldExpr, ListExpr, RepeatExpr, RecordExpr, QuantExpr, NoExprs, MoreExprs, NoFields, MoreFields, NoRanges, MoreRanges}
use Rattle.wy_ast.specs.SurfaceTree.{Decl, AliasDecl, FunctionDecl, MethodDecl, PropertyDecl, exprs_of}
use Rattle.wy_names_scope.specs.Scope.{Scope, entry_of}
use Rattle.wy_names_scope.specs.declared.table.Entry.{Entry}
use Rattle.wy_names_scope.specs.declared.table.Entry.TheVariants as entry
use Rattle.wy_names_recursion.specs.declared.edges.Edge.{Edge}
use Rattle.wy_names_recursion.specs.declared.edges.Way.{Way}
use Rattle.wy_names_recursion.specs.declared.edges.Way.TheVariants as way
use Rattle.wy_names_recursion.specs.Uses.{Edges, guarded, type_named, property_named}
use Rattle.wy_names_recursion.specs.TypeUses as types
use Rattle.wy_names_recursion.specs.ExprUses as exprs
use Rattle.wy_names_recursion.specs.DeclUses as decls

-- each use has the property
abbrev pub Each : (Edge → Type 0) → Edges → Type 0
Each G es = (i : ℕ) (e : Edge) → slice_get es i ≡ Some e → G e

front : (es : Edges) (x : Edge) (i : ℕ) (e : Edge) → slice_get es i ≡ Some e → slice_get (es ++ x ∷ []) i ≡ Some e
front [] x i e h = absurd (cc)
front (y ∷ es) x zero e h = h
front (y ∷ es) x (suc i) e h = front es x i e h

last : (es : Edges) (x : Edge) → slice_get (es ++ x ∷ []) (length es) ≡ Some x
last [] x = refl
last (y ∷ es) x = last es x

pub before_last : (G : Edge → Type 0) (es : Edges) (x : Edge) → Each G (es ++ x ∷ []) → Each G es
before_last G es x each i e h = each i e (front es x i e h)

pub of_last : (G : Edge → Type 0) (es : Edges) (x : Edge) → Each G (es ++ x ∷ []) → G x
of_last G es x each = each (length es) x (last es x)

before_type : (G : Edge → Type 0) (from : ℕ) (w : Way) (at : ℕ) (o : Option Entry) (es : Edges) → Each G (type_named from w at o es) → Each G es
before_type G from w at None es each = each
before_type G from w at (Some (entry.Type n decl)) es each = before_last G es (record { from = from; to = decl; at = at; way = w }) each
before_type G from w at (Some (entry.Routine r)) es each = each
before_type G from w at (Some (entry.Property decl arity)) es each = each
before_type G from w at (Some (entry.Variable n)) es each = each

pub before_call : (G : Edge → Type 0) (from at : ℕ) (o : Option Entry) (es : Edges) → Each G (property_named from at o es) → Each G es
before_call G from at None es each = each
before_call G from at (Some (entry.Type n decl)) es each = each
before_call G from at (Some (entry.Routine r)) es each = each
before_call G from at (Some (entry.Property decl arity)) es each = before_last G es (record { from = from; to = decl; at = at; way = way.Use }) each
before_call G from at (Some (entry.Variable n)) es each = each

mutual
  pub before_ty : (G : Edge → Type 0) (s : Scope) (from : ℕ) (w : Way) (t : Ty) (es : Edges) → Each G (types.in_ty s from w t es) → Each G es
  before_ty G s from w (NullTy at) es each = each
  before_ty G s from w (BoolTy at) es each = each
  before_ty G s from w (IntTy at) es each = each
  before_ty G s from w (AnyTy at) es each = each
  before_ty G s from w (VoidTy at) es each = each
  before_ty G s from w (RecordTy at fs) es each = before_field_tys G s from (guarded w) fs es each
  before_ty G s from w (ArrayTy at item) es each = before_ty G s from (guarded w) item es each
  before_ty G s from w (UnionTy at a b) es each = before_ty G s from w a es (before_ty G s from w b (types.in_ty s from w a es) each)
  before_ty G s from w (InterTy at a b) es each = before_ty G s from w a es (before_ty G s from w b (types.in_ty s from w a es) each)
  before_ty G s from w (NotTy at t) es each = before_ty G s from w t es each
  before_ty G s from w (NamedTy at name) es each = before_type G from w at (entry_of s name) es each

  pub before_field_tys : (G : Edge → Type 0) (s : Scope) (from : ℕ) (w : Way) (fs : FieldTys) (es : Edges) → Each G (types.in_fields s from w fs es) → Each G es
  before_field_tys G s from w NoFieldTys es each = each
  before_field_tys G s from w (MoreFieldTys name t rest) es each = before_ty G s from w t es (before_field_tys G s from w rest (types.in_ty s from w t es) each)

mutual
  pub before_expr : (G : Edge → Type 0) (s : Scope) (from : ℕ) (x : Expr) (es : Edges) → Each G (exprs.in_expr s from x es) → Each G es
  before_expr G s from (NullExpr at) es each = each
  before_expr G s from (BoolExpr at b) es each = each
  before_expr G s from (IntExpr at z) es each = each
  before_expr G s from (TextExpr at bytes) es each = each
  before_expr G s from (VarExpr at name) es each = each
  before_expr G s from (CallExpr at name args) es each = before_call G from at (entry_of s name) es (before_exprs G s from args (property_named from at (entry_of s name) es) each)
  before_expr G s from (NegExpr at a) es each = before_expr G s from a es each
  before_expr G s from (NotExpr at a) es each = before_expr G s from a es each
  before_expr G s from (LenExpr at a) es each = before_expr G s from a es each
  before_expr G s from (BinaryExpr at o a b) es each = before_expr G s from a es (before_expr G s from b (exprs.in_expr s from a es) each)
  before_expr G s from (IsExpr at a t) es each = before_expr G s from a es (before_ty G s from way.Mention t (exprs.in_expr s from a es) each)
  before_expr G s from (IndexExpr at a b) es each = before_expr G s from a es (before_expr G s from b (exprs.in_expr s from a es) each)
  before_expr G s from (FieldExpr at a name) es each = before_expr G s from a es each
  before_expr G s from (ListExpr at items) es each = before_exprs G s from items es each
  before_expr G s from (RepeatExpr at a b) es each = before_expr G s from a es (before_expr G s from b (exprs.in_expr s from a es) each)
  before_expr G s from (RecordExpr at fs) es each = before_values G s from fs es each
  before_expr G s from (QuantExpr at all rs body) es each = before_ranges G s from rs es (before_expr G s from body (exprs.in_ranges s from rs es) each)

  pub before_exprs : (G : Edge → Type 0) (s : Scope) (from : ℕ) (xs : Exprs) (es : Edges) → Each G (exprs.in_exprs s from xs es) → Each G es
  before_exprs G s from NoExprs es each = each
  before_exprs G s from (MoreExprs x rest) es each = before_expr G s from x es (before_exprs G s from rest (exprs.in_expr s from x es) each)

  pub before_values : (G : Edge → Type 0) (s : Scope) (from : ℕ) (fs : Fields) (es : Edges) → Each G (exprs.in_values s from fs es) → Each G es
  before_values G s from NoFields es each = each
  before_values G s from (MoreFields name x rest) es each = before_expr G s from x es (before_values G s from rest (exprs.in_expr s from x es) each)

  pub before_ranges : (G : Edge → Type 0) (s : Scope) (from : ℕ) (rs : Ranges) (es : Edges) → Each G (exprs.in_ranges s from rs es) → Each G es
  before_ranges G s from NoRanges es each = each
  before_ranges G s from (MoreRanges name a b rest) es each =
      before_expr G s from a es (before_expr G s from b (exprs.in_expr s from a es) (before_ranges G s from rest (exprs.in_expr s from b (exprs.in_expr s from a es)) each))

before_decl : (G : Edge → Type 0) (s : Scope) (from : ℕ) (d : Decl) (es : Edges) → Each G (decls.in_decl s from d es) → Each G es
before_decl G s from (AliasDecl a) es each = before_ty G s from way.Bare a.ty es (before_exprs G s from (exprs_of a.clauses) (types.in_ty s from way.Bare a.ty es) each)
before_decl G s from (FunctionDecl f) es each = each
before_decl G s from (MethodDecl m) es each = each
before_decl G s from (PropertyDecl p) es each = before_exprs G s from (exprs_of p.clauses) es each

before_decls : (G : Edge → Type 0) (s : Scope) (from : ℕ) (ds : List Decl) (es : Edges) → Each G (decls.in_decls s from ds es) → Each G es
before_decls G s from [] es each = each
before_decls G s from (d ∷ ds) es each = before_decl G s from d es (before_decls G s (from + 1) ds (decls.in_decl s from d es) each)

-- those of one declaration, behind those of the declarations before it
pub record OfDecl (G : Edge → Type 0) (s : Scope) (from : ℕ) (d : Decl) : Type 0 where
  pub others : Edges
  pub each : Each G (decls.in_decl s from d others)

pub some_decl : (c d : Decl) → Some c ≡ Some d → c ≡ d
some_decl c d e = cc

pub of_decl : (G : Edge → Type 0) (s : Scope) (from : ℕ) (ds : List Decl) (es : Edges) (i p : ℕ) (d : Decl) → Each G (decls.in_decls s from ds es) → slice_get ds i ≡ Some d → p ≡ from + i → OfDecl G s p d
of_decl G s from [] es i p d each h is = absurd (cc)
of_decl G s from (c ∷ ds) es zero p d each h is =
    let here : OfDecl G s from c = record { others = es; each = before_decls G s (from + 1) ds (decls.in_decl s from c es) each } in
    let place : from ≡ p = omega (arith, is) in
    subst (λ (x : Decl). OfDecl G s p x) (some_decl c d h) (subst (λ (n : ℕ). OfDecl G s n c) place here)
of_decl G s from (c ∷ ds) es (suc i) p d each h is = of_decl G s (from + 1) ds (decls.in_decl s from c es) i p d each h (omega (arith, is))
