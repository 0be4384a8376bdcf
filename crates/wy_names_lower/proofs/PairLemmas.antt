-- Fields put in order of their names are those that their values stand for, put in order.
use Rattle.std.proofs.Common.{◌≡◌, ◌+◌, ◌<◌, ℕ, List, [], ◌∷◌, length, map, drop, get_or, refl, sym, ap, ◌∙◌}
use Rattle.std.proofs.lemmas.List.{drop_more}
use Rattle.std.specs.BTreeMap.{insert_entry}
use Rattle.std.specs.Cmp.Lexicographic.{slice_cmp}
use Rattle.std.specs.Ordering.{nat_cmp, match_ordering}
use Rattle.std.specs.declared.cmp.Ordering.{Ordering}
use Rattle.std.specs.declared.cmp.Ordering.TheVariants.{Less, Equal, Greater}
use Rattle.wy_core.specs.CoreSeen.{seen_ty, seen_expr}
use Rattle.wy_core.specs.declared.types.Ty as ty
use Rattle.wy_core.specs.declared.expressions.Expr as expr
use Rattle.wy_ast.specs.SurfaceSeen as surface_seen
use Rattle.wy_ast.specs.declared.types.Ty as surface_ty
use Rattle.wy_ast.specs.declared.expressions.Expr as surface_expr
use Rattle.wy_core.specs.Types as core_types
use Rattle.wy_core.specs.CoreTree as core
use Rattle.wy_names_lower.specs.Variables.{Variables}
use Rattle.wy_names_lower.specs.Uses.{With, Template}
use Rattle.wy_names_lower.specs.ExprsLowered as lowered
use Rattle.wy_names_scope.specs.Scope.{Scope}
use Rattle.wy_names_lower.specs.TypesLowered as types
use Rattle.wy_names_lower.specs.TypesLowered.{placed}
use Rattle.wy_names_lower.specs.SeenPairs.{surface_field_tys, typed_pairs, valued_pairs}

placed_by : {A B : Type 0} (f : A → B) (xs : List (List ℕ × A)) (name : List ℕ) (x : A) → map (λ (p : List ℕ × A). (p.0, f p.1)) (placed xs name x) ≡ placed (map (λ (p : List ℕ × A). (p.0, f p.1)) xs) name (f x)
placed_by f [] name x = refl
placed_by {A} {B} f (e ∷ es) name x = by (slice_cmp nat_cmp name e.0) (placed_by f es name x)
  where
    by : (o : Ordering)
        → map (λ (p : List ℕ × A). (p.0, f p.1)) (placed es name x) ≡ placed (map (λ (p : List ℕ × A). (p.0, f p.1)) es) name (f x)
        → map (λ (p : List ℕ × A). (p.0, f p.1)) (match_ordering o ((name, x) ∷ e ∷ es) ((e.0, x) ∷ es) (e ∷ placed es name x))
        ≡ match_ordering o ((name, f x) ∷ (e.0, f e.1) ∷ map (λ (p : List ℕ × A). (p.0, f p.1)) es) ((e.0, f x) ∷ map (λ (p : List ℕ × A). (p.0, f p.1)) es) ((e.0, f e.1) ∷ placed (map (λ (p : List ℕ × A). (p.0, f p.1)) es) name (f x))
    by Less rest = refl
    by Equal rest = refl
    by Greater rest = ap (λ l. (e.0, f e.1) ∷ l) rest

pub placed_ty : (fs : List (List ℕ × ty.Ty)) (name : List ℕ) (t : ty.Ty) → typed_pairs (placed fs name t) ≡ placed (typed_pairs fs) name (seen_ty t)
placed_ty fs name t = placed_by seen_ty fs name t

pub placed_expr : (fs : List (List ℕ × expr.Expr)) (name : List ℕ) (e : expr.Expr) → valued_pairs (placed fs name e) ≡ placed (valued_pairs fs) name (seen_expr e)
placed_expr fs name e = placed_by seen_expr fs name e

-- a turn of the loop over fields of a record type
pub ty_fields_turn : (s : Scope) (fields : List (List ℕ × surface_ty.Ty)) (i : ℕ) (f : List ℕ × surface_ty.Ty) (entries entries2 : List (List ℕ × ty.Ty)) (name : List ℕ) (t : ty.Ty) (whole : List (List ℕ × core_types.Ty)) → i < length fields → f ≡ get_or fields i f
    → name ≡ f.0 → seen_ty t ≡ types.in_ty s (surface_seen.seen_ty f.1) → entries2 ≡ placed entries name t → types.in_fields s (typed_pairs entries) (surface_field_tys (drop i fields)) ≡ whole
    → types.in_fields s (typed_pairs entries2) (surface_field_tys (drop (i + 1) fields)) ≡ whole
ty_fields_turn s fields i f entries entries2 name t whole within is named value pushed before =
    ap (λ (e : List (List ℕ × ty.Ty)). types.in_fields s (typed_pairs e) (surface_field_tys (drop (i + 1) fields))) pushed
    ∙ ap (λ (m : List (List ℕ × core_types.Ty)). types.in_fields s m (surface_field_tys (drop (i + 1) fields)))
    (placed_ty entries name t ∙ ap (λ (n : List ℕ). placed (typed_pairs entries) n (seen_ty t)) named ∙ ap (placed (typed_pairs entries) f.0) value)
    ∙ ap (λ (l : List (List ℕ × surface_ty.Ty)). types.in_fields s (typed_pairs entries) (surface_field_tys l)) (sym (drop_more fields i f within ∙ ap (λ (y : List ℕ × surface_ty.Ty). y ∷ drop (i + 1) fields) (sym is)))
    ∙ before

-- a turn of the loop over fields of a record, read by p
pub fields_turn : {Z : Type 0} (p : With (List (List ℕ × core.Expr ℕ)) → Z) (ts : List Template) (s s1 : Scope) (fields : List (List ℕ × surface_expr.Expr)) (i : ℕ) (f : List ℕ × surface_expr.Expr) (vs vs2 : Variables) (entries entries2 : List (List ℕ × expr.Expr)) (name : List ℕ) (y : expr.Expr) (whole : Z)
    → i < length fields → f ≡ get_or fields i f → s1 ≡ s → vs2 ≡ (lowered.in_expr ts s1 vs (surface_seen.seen_expr f.1)).0 → name ≡ f.0 → seen_expr y ≡ (lowered.in_expr ts s1 vs (surface_seen.seen_expr f.1)).1 → entries2 ≡ placed entries name y
    → p (lowered.in_fields ts s vs (valued_pairs entries) (surface_seen.seen_fields (drop i fields))) ≡ whole
    → p (lowered.in_fields ts s vs2 (valued_pairs entries2) (surface_seen.seen_fields (drop (i + 1) fields))) ≡ whole
fields_turn p ts s s1 fields i f vs vs2 entries entries2 name y whole within is scope next named value pushed before =
    ap (λ (e : List (List ℕ × expr.Expr)). p (lowered.in_fields ts s vs2 (valued_pairs e) (surface_seen.seen_fields (drop (i + 1) fields)))) pushed
    ∙ ap (λ (m : List (List ℕ × core.Expr ℕ)). p (lowered.in_fields ts s vs2 m (surface_seen.seen_fields (drop (i + 1) fields))))
    (placed_expr entries name y ∙ ap (λ (n : List ℕ). placed (valued_pairs entries) n (seen_expr y)) named
    ∙ ap (placed (valued_pairs entries) f.0) (value ∙ ap (λ (z : Scope). (lowered.in_expr ts z vs (surface_seen.seen_expr f.1)).1) scope))
    ∙ ap (λ (v : Variables). p (lowered.in_fields ts s v (placed (valued_pairs entries) f.0 (lowered.in_expr ts s vs (surface_seen.seen_expr f.1)).1) (surface_seen.seen_fields (drop (i + 1) fields))))
    (next ∙ ap (λ (z : Scope). (lowered.in_expr ts z vs (surface_seen.seen_expr f.1)).0) scope)
    ∙ ap (λ (l : List (List ℕ × surface_expr.Expr)). p (lowered.in_fields ts s vs (valued_pairs entries) (surface_seen.seen_fields l)))
    (sym (drop_more fields i f within ∙ ap (λ (e : List ℕ × surface_expr.Expr). e ∷ drop (i + 1) fields) (sym is)))
    ∙ before
