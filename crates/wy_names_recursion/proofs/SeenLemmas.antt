-- What nodes with a list of pairs stand for.
use Rattle.std.proofs.Common.{◌≡◌, ◌∙◌, ap, sym, ℕ, List, Bool, rules}
use Rattle.wy_ast.specs.SurfaceTree as tree
use Rattle.wy_ast.specs.SurfaceSeen.{seen_expr, seen_fields, seen_ranges, seen_ty}
use Rattle.wy_ast.specs.declared.expressions.Expr as e
use Rattle.wy_ast.specs.declared.expressions.ExprKind as kind
use Rattle.wy_ast.specs.declared.types.Ty as t
use Rattle.wy_ast.specs.declared.types.TyKind as tykind
use Rattle.wy_names_scope.proofs.SharedLemmas.{seen_quant}
use Rattle.wy_names_scope.specs.Scope.{Scope}
use Rattle.wy_names_recursion.specs.declared.edges.Way.{Way}
use Rattle.wy_names_recursion.specs.Uses.{Edges, guarded}
use Rattle.wy_names_recursion.specs.ExprUses.{in_expr, in_values, in_ranges}
use Rattle.wy_names_recursion.specs.TypeUses as types

pub seen_record : (x : e.Expr) (fs : List (List ℕ × e.Expr)) → x.kind ≡ kind.Record fs → seen_expr x ≡ tree.RecordExpr x.at (seen_fields fs)
seen_record x fs is = search (rules, e.the_lemmas)

pub seen_record_ty : (x : t.Ty) (fs : List (List ℕ × t.Ty)) → x.kind ≡ tykind.Record fs → seen_ty x ≡ tree.RecordTy x.at (types.seen_fields fs)
seen_record_ty x fs is = search (rules, t.the_lemmas)

-- the uses in them, where their parts are read again
pub record_ty_uses : (s : Scope) (from : ℕ) (w w2 : Way) (x : t.Ty) (edges : Edges) (fs fs2 : List (List ℕ × t.Ty)) → x.kind ≡ tykind.Record fs → fs2 ≡ fs → w2 ≡ guarded w
    → types.in_fields s from w2 (types.seen_fields fs2) edges ≡ types.in_ty s from w (seen_ty x) edges
record_ty_uses s from w w2 x edges fs fs2 is fields_are way_is =
    ap (λ (v : Way). types.in_fields s from v (types.seen_fields fs2) edges) way_is
    ∙ ap (λ (y : List (List ℕ × t.Ty)). types.in_fields s from (guarded w) (types.seen_fields y) edges) fields_are
    ∙ sym (ap (λ (y : tree.Ty). types.in_ty s from w y edges) (seen_record_ty x fs is))

pub record_uses : (s : Scope) (from : ℕ) (x : e.Expr) (edges : Edges) (fs fs2 : List (List ℕ × e.Expr)) → x.kind ≡ kind.Record fs → fs2 ≡ fs
    → in_values s from (seen_fields fs2) edges ≡ in_expr s from (seen_expr x) edges
record_uses s from x edges fs fs2 is fields_are =
    ap (λ (y : List (List ℕ × e.Expr)). in_values s from (seen_fields y) edges) fields_are
    ∙ sym (ap (λ (y : tree.Expr). in_expr s from y edges) (seen_record x fs is))

pub quant_uses : (s : Scope) (from : ℕ) (x : e.Expr) (edges mid : Edges) (all : Bool) (rs rs2 : List (List ℕ × e.Expr × e.Expr)) (body body2 : e.Expr) → x.kind ≡ kind.Quant all rs body → rs2 ≡ rs → body2 ≡ body
    → mid ≡ in_ranges s from (seen_ranges rs2) edges → in_expr s from (seen_expr body2) mid ≡ in_expr s from (seen_expr x) edges
quant_uses s from x edges mid all rs rs2 body body2 is ranges_are body_is mid_is =
    ap (λ (b : e.Expr). in_expr s from (seen_expr b) mid) body_is
    ∙ ap (λ (m : Edges). in_expr s from (seen_expr body) m) (mid_is ∙ ap (λ (r : List (List ℕ × e.Expr × e.Expr)). in_ranges s from (seen_ranges r) edges) ranges_are)
    ∙ sym (ap (λ (y : tree.Expr). in_expr s from y edges) (seen_quant x all rs body is))
