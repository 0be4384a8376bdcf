-- What nodes with a list of pairs stand for, and how many expressions there are.
use Rattle.std.proofs.Common.{◌≡◌, ℕ, ◌+◌, List, Bool, [], ◌∷◌, length, refl, ap, sym, ◌∙◌, rules, add-one}
use Rattle.wy_ast.specs.SurfaceTree as tree
use Rattle.wy_ast.specs.SurfaceSeen.{seen_expr, seen_exprs, seen_fields, seen_ranges, seen_ty}
use Rattle.wy_ast.specs.declared.expressions.Expr as e
use Rattle.wy_ast.specs.declared.expressions.ExprKind as kind
use Rattle.wy_ast.specs.declared.types.Ty as t
use Rattle.wy_ast.specs.declared.types.TyKind as tykind
use Rattle.wy_names_scope.proofs.SharedLemmas.{seen_quant}
use Rattle.wy_names_scope.specs.Faults.{Found}
use Rattle.wy_names_scope.specs.Scope.{Scope}
use Rattle.wy_names_recursion.specs.declared.context.Context.{Context}
use Rattle.wy_names_recursion.specs.Calls.{contract}
use Rattle.wy_names_recursion.specs.ExprNames.{count_of, in_expr, in_ranges, with_ranges}
use Rattle.wy_names_recursion.specs.TypeNames as types

pub seen_record : (x : e.Expr) (fs : List (List ℕ × e.Expr)) → x.kind ≡ kind.Record fs → seen_expr x ≡ tree.RecordExpr x.at (seen_fields fs)
seen_record x fs is = search (rules, e.the_lemmas)

pub seen_record_ty : (x : t.Ty) (fs : List (List ℕ × t.Ty)) → x.kind ≡ tykind.Record fs → seen_ty x ≡ tree.RecordTy x.at (types.seen_fields fs)
seen_record_ty x fs is = search (rules, t.the_lemmas)

pub count_seen : (es : List e.Expr) → count_of (tree.exprs_of (seen_exprs es)) ≡ length es
count_seen [] = refl
count_seen (x ∷ xs) = ap (λ n. n + 1) (count_seen xs) ∙ add-one (length xs)

-- a quantifier where its parts are read again
pub quant_value : (c : Context) (s : Scope) (x : e.Expr) (f : Found) (all : Bool) (rs rs2 : List (List ℕ × e.Expr × e.Expr)) (body body2 : e.Expr) → x.kind ≡ kind.Quant all rs body → rs2 ≡ rs → body2 ≡ body
    → (inside : Context) → inside ≡ contract c → (s2 : Scope) → s2 ≡ with_ranges s (seen_ranges rs2) → (f2 : Found) → f2 ≡ in_ranges inside s x.at (seen_ranges rs2) f
    → (f3 : Found) → f3 ≡ in_expr inside s2 (seen_expr body2) f2 → f3 ≡ in_expr c s (seen_expr x) f
quant_value c s x f all rs rs2 body body2 is ranges_are body_is inside inside_is s2 s2_is f2 f2_is f3 f3_is =
    f3_is
    ∙ ap (λ (i : Context). in_expr i s2 (seen_expr body2) f2) inside_is
    ∙ ap (λ (z : Scope). in_expr (contract c) z (seen_expr body2) f2) (s2_is ∙ ap (λ (r : List (List ℕ × e.Expr × e.Expr)). with_ranges s (seen_ranges r)) ranges_are)
    ∙ ap (λ (b : e.Expr). in_expr (contract c) (with_ranges s (seen_ranges rs)) (seen_expr b) f2) body_is
    ∙ ap (λ (g : Found). in_expr (contract c) (with_ranges s (seen_ranges rs)) (seen_expr body) g)
    (f2_is ∙ ap (λ (i : Context). in_ranges i s x.at (seen_ranges rs2) f) inside_is
    ∙ ap (λ (r : List (List ℕ × e.Expr × e.Expr)). in_ranges (contract c) s x.at (seen_ranges r) f) ranges_are)
    ∙ sym (ap (λ (y : tree.Expr). in_expr c s y f) (seen_quant x all rs body is))
