-- The names of fields.
use Rattle.std.proofs.Common.{◌≡◌, ℕ, List, [], ◌∷◌, map, refl, ap, sym, rules}
use Rattle.wy_core.specs.CoreSeen.{field_tys_of, seen_ty, seen_expr, seen_fields}
use Rattle.wy_core.specs.Types.{RecordTy}
use Rattle.wy_core.specs.CoreTree.{RecordExpr}
use Rattle.wy_core.specs.declared.types.Ty as t
use Rattle.wy_core.specs.declared.types.Ty.{Ty}
use Rattle.wy_core.specs.declared.types.TyKind as ty_kind
use Rattle.wy_core.specs.declared.expressions.Expr as e
use Rattle.wy_core.specs.declared.expressions.ExprKind as kind
use Rattle.wy_core.specs.declared.expressions.Expr.{Expr}
use Rattle.wy_code_spec.specs.tables.Tables as spec
use Rattle.wy_code_spec.specs.tables.Tables.{Table}

pub ty_names : (fs : List (List ℕ × Ty)) → spec.ty_names_in (field_tys_of (map (λ f. (f.0, seen_ty f.1)) fs)) ≡ map (λ f. f.0) fs
ty_names [] = refl
ty_names (f ∷ fs) = ap (λ (l : List (List ℕ)). f.0 ∷ l) (ty_names fs)

pub field_names : (fs : List (List ℕ × Expr)) → spec.names_in (seen_fields fs) ≡ map (λ f. f.0) fs
field_names [] = refl
field_names (f ∷ fs) = ap (λ (l : List (List ℕ)). f.0 ∷ l) (field_names fs)

pub seen_record_ty : (x : Ty) (fs : List (List ℕ × Ty)) → x.kind ≡ ty_kind.Record fs → seen_ty x ≡ RecordTy (field_tys_of (map (λ f. (f.0, seen_ty f.1)) fs))
seen_record_ty x fs is = search (rules, t.the_lemmas)

pub seen_record : (x : Expr) (fs : List (List ℕ × Expr)) → x.kind ≡ kind.Record fs → seen_expr x ≡ RecordExpr x.at (seen_fields fs)
seen_record x fs is = search (rules, e.the_lemmas)

pub tys_shape : (fs : List (List ℕ × Ty)) (t u : Table) → u ≡ spec.field_tys_table (field_tys_of (map (λ f. (f.0, seen_ty f.1)) fs)) t
    → spec.with_shape (map (λ f. f.0) fs) u ≡ spec.record_table (field_tys_of (map (λ f. (f.0, seen_ty f.1)) fs)) t
tys_shape fs t u h = let e = sym (ty_names fs) in λ i. spec.with_shape (e i) (h i)

pub values_shape : (fs : List (List ℕ × Expr)) (t u : Table) → u ≡ spec.fields_table (seen_fields fs) t → spec.with_shape (map (λ f. f.0) fs) u ≡ spec.fields_shape (seen_fields fs) t
values_shape fs t u h = let e = sym (field_names fs) in λ i. spec.with_shape (e i) (h i)
