-- The uses that are listed are those that declarations have.
use Rattle.std.proofs.Common.{◌≡◌, ◌⊎◌, inl, inr, ℕ, zero, suc, ◌+◌, List, [], ◌∷◌, ◌++◌, Option, Some, None, refl, sym, subst}
use Rattle.std.specs.List.{slice_get}
use Rattle.wy_ast.specs.SurfaceTree.{Ty, FieldTys, NullTy, BoolTy, IntTy, AnyTy, VoidTy, RecordTy, ArrayTy, UnionTy, InterTy, NotTy, NamedTy, NoFieldTys, MoreFieldTys}
use Rattle.wy_ast.specs.SurfaceTree.{Expr, Exprs, Fields, Ranges, NullExpr, BoolExpr, IntExpr, TextExpr, VarExpr, CallExpr, NegExpr, NotExpr, LenExpr, BinaryExpr, IsExpr, IndexExpr, FieldExpr, ListExpr, RepeatExpr, RecordExpr, QuantExpr, NoExprs, MoreExprs, NoFields, MoreFields, NoRanges, MoreRanges}
use Rattle.wy_ast.specs.SurfaceTree.{Decl, AliasDecl, FunctionDecl, MethodDecl, PropertyDecl, exprs_of}
use Rattle.wy_lemmas.proofs.Choices.{widen}
use Rattle.wy_names_scope.specs.declared.table.Entry.{Entry}
use Rattle.wy_names_scope.specs.declared.table.Entry.TheVariants as entry
use Rattle.wy_names_scope.specs.Scope.{Scope, entry_of}
use Rattle.wy_names_recursion.specs.declared.edges.Edge.{Edge}
use Rattle.wy_names_recursion.specs.declared.edges.Way.{Way}
use Rattle.wy_names_recursion.specs.declared.edges.Way.TheVariants as way
use Rattle.wy_names_recursion.specs.Uses.{Edges, guarded, property_named, property_use, type_named, type_use, with_edge}
use Rattle.wy_names_recursion.specs.TypeUses as types
use Rattle.wy_names_recursion.specs.ExprUses as exprs
use Rattle.wy_names_recursion.specs.DeclUses as decls
use Rattle.wy_names.specs.resolved.UsesShown.{NoUse, EitherUse, IsUse, OfType, OfTypeName, InTy, InFieldTys, OfProperty, OfPropertyName, InExpr, InExprs, InFields, InRanges, InDecl, InDecls, IsListed}

-- behind these uses those were put
pub record Puts (P : Edge → Type 0) (old new : Edges) : Type 0 where
  pub put : (e : Edge) → IsListed new e → IsListed old e ⊎ P e
  pub has : (e : Edge) → P e → IsListed new e
  pub kept : (e : Edge) → IsListed old e → IsListed new e

none : (es : Edges) → Puts NoUse es es
none es = record { put = λ e h. inl h; has = λ e p. absurd p; kept = λ e h. h }

put_by : {P : Edge → Type 0} {x y : Edges} (Q : Edge → Type 0) (e : Edge) → Puts P x y → IsListed y e ⊎ Q e → IsListed x e ⊎ (P e ⊎ Q e)
put_by Q e p (inl h) = widen (p.put e h)
put_by Q e p (inr q) = inr (inr q)

has_by : {P Q : Edge → Type 0} {x y z : Edges} (e : Edge) → Puts P x y → Puts Q y z → P e ⊎ Q e → IsListed z e
has_by e p q (inl h) = q.kept e (p.has e h)
has_by e p q (inr h) = q.has e h

both : {P Q : Edge → Type 0} {x y z : Edges} → Puts P x y → Puts Q y z → Puts (EitherUse P Q) x z
both {P} {Q} p q = record { put = λ e h. put_by Q e p (q.put e h); has = λ e h. has_by e p q h; kept = λ e h. q.kept e (p.kept e h) }

-- ---- one use

some_edge : (x y : Edge) → Some x ≡ Some y → y ≡ x
some_edge x y h = cc

next : (x e : Edge) (es : Edges) → IsListed es e → IsListed (x ∷ es) e
next x e es h = record { place = suc h.place; there = h.there }

last_put : (es : Edges) (x e : Edge) (i : ℕ) → slice_get (es ++ x ∷ []) i ≡ Some e → IsListed es e ⊎ (e ≡ x)
last_put [] x e zero h = inr (some_edge x e h)
last_put [] x e (suc i) h = absurd (cc)
last_put (y ∷ es) x e zero h = inl (record { place = zero; there = h })
last_put (y ∷ es) x e (suc i) h = over (last_put es x e i h)
  where
    over : IsListed es e ⊎ (e ≡ x) → IsListed (y ∷ es) e ⊎ (e ≡ x)
    over (inl l) = inl (next y e es l)
    over (inr is) = inr is

last_has : (es : Edges) (x : Edge) → IsListed (es ++ x ∷ []) x
last_has [] x = record { place = zero; there = refl }
last_has (y ∷ es) x = next y x (es ++ x ∷ []) (last_has es x)

first_kept : (es : Edges) (x e : Edge) (i : ℕ) → slice_get es i ≡ Some e → IsListed (es ++ x ∷ []) e
first_kept [] x e i h = absurd (cc)
first_kept (y ∷ es) x e zero h = record { place = zero; there = h }
first_kept (y ∷ es) x e (suc i) h = next y e (es ++ x ∷ []) (first_kept es x e i h)

one : (es : Edges) (from to at : ℕ) (w : Way) → Puts (IsUse from to at w) es (with_edge es from to at w)
one es from to at w = record {
  put = λ e h. last_put es (record { from = from; to = to; at = at; way = w }) e h.place h.there;
  has = λ e is. subst (λ (y : Edge). IsListed (with_edge es from to at w) y) (sym is) (last_has es (record { from = from; to = to; at = at; way = w }));
  kept = λ e h. first_kept es (record { from = from; to = to; at = at; way = w }) e h.place h.there;
}

-- ---- types

type_puts : (from : ℕ) (w : Way) (at : ℕ) (e : Entry) (es : Edges) → Puts (OfType from w at e) es (type_use from w at e es)
type_puts from w at (entry.Type n decl) es = one es from decl at w
type_puts from w at (entry.Routine s) es = none es
type_puts from w at (entry.Property decl arity) es = none es
type_puts from w at (entry.Variable n) es = none es

type_name_puts : (from : ℕ) (w : Way) (at : ℕ) (e : Option Entry) (es : Edges) → Puts (OfTypeName from w at e) es (type_named from w at e es)
type_name_puts from w at None es = none es
type_name_puts from w at (Some e) es = type_puts from w at e es

mutual
  ty_puts : (s : Scope) (from : ℕ) (w : Way) (t : Ty) (es : Edges) → Puts (InTy s from w t) es (types.in_ty s from w t es)
  ty_puts s from w (NullTy at) es = none es
  ty_puts s from w (BoolTy at) es = none es
  ty_puts s from w (IntTy at) es = none es
  ty_puts s from w (AnyTy at) es = none es
  ty_puts s from w (VoidTy at) es = none es
  ty_puts s from w (RecordTy at fs) es = field_tys_put s from (guarded w) fs es
  ty_puts s from w (ArrayTy at item) es = ty_puts s from (guarded w) item es
  ty_puts s from w (UnionTy at a b) es = both (ty_puts s from w a es) (ty_puts s from w b _)
  ty_puts s from w (InterTy at a b) es = both (ty_puts s from w a es) (ty_puts s from w b _)
  ty_puts s from w (NotTy at t) es = ty_puts s from w t es
  ty_puts s from w (NamedTy at name) es = type_name_puts from w at (entry_of s name) es

  field_tys_put : (s : Scope) (from : ℕ) (w : Way) (fs : FieldTys) (es : Edges) → Puts (InFieldTys s from w fs) es (types.in_fields s from w fs es)
  field_tys_put s from w NoFieldTys es = none es
  field_tys_put s from w (MoreFieldTys name t rest) es = both (ty_puts s from w t es) (field_tys_put s from w rest _)

-- ---- clauses

property_puts : (from at : ℕ) (e : Entry) (es : Edges) → Puts (OfProperty from at e) es (property_use from at e es)
property_puts from at (entry.Type n decl) es = none es
property_puts from at (entry.Routine s) es = none es
property_puts from at (entry.Property decl arity) es = one es from decl at way.Use
property_puts from at (entry.Variable n) es = none es

property_name_puts : (from at : ℕ) (e : Option Entry) (es : Edges) → Puts (OfPropertyName from at e) es (property_named from at e es)
property_name_puts from at None es = none es
property_name_puts from at (Some e) es = property_puts from at e es

mutual
  expr_puts : (s : Scope) (from : ℕ) (e : Expr) (es : Edges) → Puts (InExpr s from e) es (exprs.in_expr s from e es)
  expr_puts s from (NullExpr at) es = none es
  expr_puts s from (BoolExpr at b) es = none es
  expr_puts s from (IntExpr at z) es = none es
  expr_puts s from (TextExpr at bytes) es = none es
  expr_puts s from (VarExpr at name) es = none es
  expr_puts s from (CallExpr at name args) es = both (property_name_puts from at (entry_of s name) es) (exprs_put s from args _)
  expr_puts s from (NegExpr at a) es = expr_puts s from a es
  expr_puts s from (NotExpr at a) es = expr_puts s from a es
  expr_puts s from (LenExpr at a) es = expr_puts s from a es
  expr_puts s from (BinaryExpr at o a b) es = both (expr_puts s from a es) (expr_puts s from b _)
  expr_puts s from (IsExpr at a t) es = both (expr_puts s from a es) (ty_puts s from way.Mention t _)
  expr_puts s from (IndexExpr at a b) es = both (expr_puts s from a es) (expr_puts s from b _)
  expr_puts s from (FieldExpr at a name) es = expr_puts s from a es
  expr_puts s from (ListExpr at items) es = exprs_put s from items es
  expr_puts s from (RepeatExpr at a b) es = both (expr_puts s from a es) (expr_puts s from b _)
  expr_puts s from (RecordExpr at fs) es = fields_put s from fs es
  expr_puts s from (QuantExpr at all rs body) es = both (ranges_put s from rs es) (expr_puts s from body _)

  exprs_put : (s : Scope) (from : ℕ) (xs : Exprs) (es : Edges) → Puts (InExprs s from xs) es (exprs.in_exprs s from xs es)
  exprs_put s from NoExprs es = none es
  exprs_put s from (MoreExprs e rest) es = both (expr_puts s from e es) (exprs_put s from rest _)

  fields_put : (s : Scope) (from : ℕ) (fs : Fields) (es : Edges) → Puts (InFields s from fs) es (exprs.in_values s from fs es)
  fields_put s from NoFields es = none es
  fields_put s from (MoreFields name e rest) es = both (expr_puts s from e es) (fields_put s from rest _)

  ranges_put : (s : Scope) (from : ℕ) (rs : Ranges) (es : Edges) → Puts (InRanges s from rs) es (exprs.in_ranges s from rs es)
  ranges_put s from NoRanges es = none es
  ranges_put s from (MoreRanges name a b rest) es = both (expr_puts s from a es) (both (expr_puts s from b _) (ranges_put s from rest _))

-- ---- declarations

decl_puts : (s : Scope) (from : ℕ) (d : Decl) (es : Edges) → Puts (InDecl s from d) es (decls.in_decl s from d es)
decl_puts s from (AliasDecl a) es = both (ty_puts s from way.Bare a.ty es) (exprs_put s from (exprs_of a.clauses) _)
decl_puts s from (FunctionDecl f) es = none es
decl_puts s from (MethodDecl m) es = none es
decl_puts s from (PropertyDecl p) es = exprs_put s from (exprs_of p.clauses) es

decls_put : (s : Scope) (from : ℕ) (ds : List Decl) (es : Edges) → Puts (InDecls s from ds) es (decls.in_decls s from ds es)
decls_put s from [] es = none es
decls_put s from (d ∷ ds) es = both (decl_puts s from d es) (decls_put s (from + 1) ds _)

unlisted : (e : Edge) {A : Type 0} → IsListed [] e ⊎ A → A
unlisted e (inl h) = absurd (let t = h.there in cc)
unlisted e (inr a) = a

pub listed_use : (s : Scope) (ds : List Decl) (e : Edge) → IsListed (decls.edges_of s ds) e → InDecls s 0 ds e
listed_use s ds e h = unlisted e ((decls_put s 0 ds []).put e h)

pub use_listed : (s : Scope) (ds : List Decl) (e : Edge) → InDecls s 0 ds e → IsListed (decls.edges_of s ds) e
use_listed s ds e h = (decls_put s 0 ds []).has e h
