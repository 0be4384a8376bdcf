-- What nodes with a list of pairs are lowered to.
use Rattle.std.proofs.Common.{◌≡◌, ℕ, List, [], Bool, refl, sym, ap, ◌∙◌, rules}
use Rattle.wy_ast.specs.SurfaceTree as tree
use Rattle.wy_ast.specs.SurfaceSeen as surface
use Rattle.wy_ast.specs.declared.expressions.Expr as e
use Rattle.wy_ast.specs.declared.expressions.ExprKind as kind
use Rattle.wy_ast.specs.declared.types.Ty as t
use Rattle.wy_ast.specs.declared.types.TyKind as tykind
use Rattle.wy_core.specs.CoreTree as core
use Rattle.wy_core.specs.CoreSeen.{field_tys_of}
use Rattle.wy_core.specs.Types as core_types
use Rattle.wy_core_build.specs.SeenFields.{seen_field_tys}
use Rattle.wy_core.specs.declared.types.Ty as core_ty
use Rattle.wy_names_scope.specs.Scope.{Scope}
use Rattle.wy_names_lower.specs.Variables.{Variables}
use Rattle.wy_names_lower.specs.Uses.{Template}
use Rattle.wy_names_lower.specs.TypesLowered as types
use Rattle.wy_names_lower.specs.ExprsLowered.{Head, in_expr, in_fields, in_ranges, several, quantified}
use Rattle.wy_names_lower.specs.SeenPairs.{surface_field_tys, typed_pairs}

seen_quant : (x : e.Expr) (all : Bool) (rs : List (List ℕ × e.Expr × e.Expr)) (body : e.Expr) → x.kind ≡ kind.Quant all rs body
    → surface.seen_expr x ≡ tree.QuantExpr x.at all (surface.seen_ranges rs) (surface.seen_expr body)
seen_quant x all rs body is = search (rules, e.the_lemmas)

seen_record_ty : (x : t.Ty) (fs : List (List ℕ × t.Ty)) → x.kind ≡ tykind.Record fs → surface.seen_ty x ≡ tree.RecordTy x.at (surface_field_tys fs)
seen_record_ty x fs is = search (rules, t.the_lemmas)

-- a record type
pub record_ty_value : (s : Scope) (x : t.Ty) (fs fs2 : List (List ℕ × t.Ty)) (made : List (List ℕ × core_ty.Ty)) (made_ty : core_types.Ty) → x.kind ≡ tykind.Record fs → fs2 ≡ fs
    → typed_pairs made ≡ types.in_fields s [] (surface_field_tys fs2) → made_ty ≡ core_types.RecordTy (seen_field_tys made) → made_ty ≡ types.in_ty s (surface.seen_ty x)
record_ty_value s x fs fs2 made made_ty is same placed made_is =
    made_is ∙ ap (λ (l : List (List ℕ × core_types.Ty)). core_types.RecordTy (field_tys_of l)) placed
    ∙ ap (λ (l : List (List ℕ × t.Ty)). core_types.RecordTy (field_tys_of (types.in_fields s [] (surface_field_tys l)))) same
    ∙ sym (ap (types.in_ty s) (seen_record_ty x fs is))

pub quant_variables : (ts : List Template) (s s2 : Scope) (vs vs2 vs3 : Variables) (x : e.Expr) (all : Bool) (rs rs2 : List (List ℕ × e.Expr × e.Expr)) (body body2 : e.Expr) → x.kind ≡ kind.Quant all rs body → rs2 ≡ rs → body2 ≡ body
    → s2 ≡ (in_ranges ts s vs (surface.seen_ranges rs2)).0 → vs2 ≡ (in_ranges ts s vs (surface.seen_ranges rs2)).1 → vs3 ≡ (in_expr ts s2 vs2 (surface.seen_expr body2)).0
    → vs3 ≡ (several ts s vs (surface.seen_expr x)).0
quant_variables ts s s2 vs vs2 vs3 x all rs rs2 body body2 is ranges_are body_is scope variables value =
    value ∙ ap (λ (z : Scope). (in_expr ts z vs2 (surface.seen_expr body2)).0) scope
    ∙ ap (λ (z : Variables). (in_expr ts (in_ranges ts s vs (surface.seen_ranges rs2)).0 z (surface.seen_expr body2)).0) variables
    ∙ ap (λ (l : List (List ℕ × e.Expr × e.Expr)). (in_expr ts (in_ranges ts s vs (surface.seen_ranges l)).0 (in_ranges ts s vs (surface.seen_ranges l)).1 (surface.seen_expr body2)).0) ranges_are
    ∙ ap (λ (b : e.Expr). (in_expr ts (in_ranges ts s vs (surface.seen_ranges rs)).0 (in_ranges ts s vs (surface.seen_ranges rs)).1 (surface.seen_expr b)).0) body_is
    ∙ sym (ap (λ (z : tree.Expr). (several ts s vs z).0) (seen_quant x all rs body is))

pub quant_value : (ts : List Template) (s s2 : Scope) (vs vs2 : Variables) (heads : List Head) (made y : core.Expr ℕ) (x : e.Expr) (all : Bool) (rs rs2 : List (List ℕ × e.Expr × e.Expr)) (body body2 : e.Expr) → x.kind ≡ kind.Quant all rs body → rs2 ≡ rs → body2 ≡ body
    → s2 ≡ (in_ranges ts s vs (surface.seen_ranges rs2)).0 → vs2 ≡ (in_ranges ts s vs (surface.seen_ranges rs2)).1 → heads ≡ (in_ranges ts s vs (surface.seen_ranges rs2)).2
    → made ≡ (in_expr ts s2 vs2 (surface.seen_expr body2)).1 → y ≡ quantified x.at all heads made → y ≡ (several ts s vs (surface.seen_expr x)).1
quant_value ts s s2 vs vs2 heads made y x all rs rs2 body body2 is ranges_are body_is scope variables heads_are value y_is =
    y_is ∙ ap (λ (h : List Head). quantified x.at all h made) heads_are
    ∙ ap (quantified x.at all (in_ranges ts s vs (surface.seen_ranges rs2)).2)
    (value ∙ ap (λ (z : Scope). (in_expr ts z vs2 (surface.seen_expr body2)).1) scope
    ∙ ap (λ (z : Variables). (in_expr ts (in_ranges ts s vs (surface.seen_ranges rs2)).0 z (surface.seen_expr body2)).1) variables)
    ∙ ap (λ (l : List (List ℕ × e.Expr × e.Expr)).
    quantified x.at all (in_ranges ts s vs (surface.seen_ranges l)).2
    (in_expr ts (in_ranges ts s vs (surface.seen_ranges l)).0 (in_ranges ts s vs (surface.seen_ranges l)).1 (surface.seen_expr body2)).1) ranges_are
    ∙ ap (λ (b : e.Expr).
    quantified x.at all (in_ranges ts s vs (surface.seen_ranges rs)).2
    (in_expr ts (in_ranges ts s vs (surface.seen_ranges rs)).0 (in_ranges ts s vs (surface.seen_ranges rs)).1 (surface.seen_expr b)).1) body_is
    ∙ sym (ap (λ (z : tree.Expr). (several ts s vs z).1) (seen_quant x all rs body is))
