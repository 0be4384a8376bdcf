-- What nodes with a list of pairs stand for.
use Rattle.std.proofs.Common.{◌≡◌, ◌∙◌, ap, sym, ℕ, List, [], Bool, Some, None, map, rules}
use Rattle.std.specs.List.{slice_get}
use Rattle.std.specs.Option.{option_map}
use Rattle.std.proofs.lemmas.Option.{slice_get-map}
use Rattle.wy_ast.specs.SurfaceTree as tree
use Rattle.wy_ast.specs.SurfaceSeen.{seen_decl, seen_expr, seen_fields, seen_ranges, seen_ty}
use Rattle.wy_ast.specs.declared.declarations.Decl.{Decl}
use Rattle.wy_ast.specs.declared.expressions.Expr as e
use Rattle.wy_ast.specs.declared.expressions.ExprKind as kind
use Rattle.wy_ast.specs.declared.types.Ty as t
use Rattle.wy_ast.specs.declared.types.TyKind as tykind
use Rattle.wy_names_expand.specs.declared.measure.Measure.{Measure}
use Rattle.wy_names_expand.specs.declared.measure.Spot.{Spot}
use Rattle.wy_names_expand.specs.Measures.{inside, counted, quantified, root, nothing, limited}
use Rattle.wy_names_scope.proofs.SharedLemmas.{seen_quant}
use Rattle.wy_names_scope.specs.Faults.{Found}
use Rattle.wy_names_expand.specs.declared.measure.Use.{Use}
use Rattle.wy_names_expand.specs.Wholes.{behind_first}
use Rattle.wy_names_expand.specs.Sizes.{Known, seen_field_tys, in_expr, in_fields, in_ranges, behind_ranges, in_ty, in_field_tys}

pub seen_record : (x : e.Expr) (fs : List (List ℕ × e.Expr)) → x.kind ≡ kind.Record fs → seen_expr x ≡ tree.RecordExpr x.at (seen_fields fs)
seen_record x fs is = search (rules, e.the_lemmas)

pub seen_record_ty : (x : t.Ty) (fs : List (List ℕ × t.Ty)) → x.kind ≡ tykind.Record fs → seen_ty x ≡ tree.RecordTy x.at (seen_field_tys fs)
seen_record_ty x fs is = search (rules, t.the_lemmas)

-- their sizes, where their parts are read again
pub record_size : (k : Known) (s : Spot) (x : e.Expr) (m : Measure) (fs fs2 : List (List ℕ × e.Expr)) → x.kind ≡ kind.Record fs → fs2 ≡ fs
    → in_expr k s (seen_expr x) m ≡ in_fields k (inside s) (seen_fields fs2) (counted m s)
record_size k s x m fs fs2 is fields_are =
    ap (λ (y : tree.Expr). in_expr k s y m) (seen_record x fs is) ∙ ap (λ (y : List (List ℕ × e.Expr)). in_fields k (inside s) (seen_fields y) (counted m s)) (sym fields_are)

pub quant_size : (k : Known) (s : Spot) (x : e.Expr) (m : Measure) (all : Bool) (rs rs2 : List (List ℕ × e.Expr × e.Expr)) (body body2 : e.Expr)
    → x.kind ≡ kind.Quant all rs body → rs2 ≡ rs → body2 ≡ body
    → in_expr k s (seen_expr x) m ≡ in_expr k (behind_ranges (quantified s) (seen_ranges rs2)) (seen_expr body2) (in_ranges k (quantified s) (seen_ranges rs2) m)
quant_size k s x m all rs rs2 body body2 is ranges_are body_is =
    ap (λ (y : tree.Expr). in_expr k s y m) (seen_quant x all rs body is)
    ∙ ap (λ (r : List (List ℕ × e.Expr × e.Expr)). in_expr k (behind_ranges (quantified s) (seen_ranges r)) (seen_expr body) (in_ranges k (quantified s) (seen_ranges r) m)) (sym ranges_are)
    ∙ ap (λ (b : e.Expr). in_expr k (behind_ranges (quantified s) (seen_ranges rs2)) (seen_expr b) (in_ranges k (quantified s) (seen_ranges rs2) m)) (sym body_is)

pub record_ty_size : (s : Spot) (x : t.Ty) (m : Measure) (fs fs2 : List (List ℕ × t.Ty)) → x.kind ≡ tykind.Record fs → fs2 ≡ fs
    → in_ty s (seen_ty x) m ≡ in_field_tys (inside s) (seen_field_tys fs2) (counted m s)
record_ty_size s x m fs fs2 is fields_are =
    ap (λ (y : tree.Ty). in_ty s y m) (seen_record_ty x fs is) ∙ ap (λ (y : List (List ℕ × t.Ty)). in_field_tys (inside s) (seen_field_tys y) (counted m s)) (sym fields_are)

-- the declaration at an index
pub seen_at : (ds : List Decl) (i : ℕ) (d : Decl) → slice_get ds i ≡ Some d → slice_get (map seen_decl ds) i ≡ Some (seen_decl d)
seen_at ds i d e = slice_get-map seen_decl ds i ∙ ap (option_map seen_decl) e

pub seen_none : (ds : List Decl) (i : ℕ) → slice_get ds i ≡ None → slice_get (map seen_decl ds) i ≡ None
seen_none ds i e = slice_get-map seen_decl ds i ∙ ap (option_map seen_decl) e

-- what stands behind `first ||`, step by step
pub behind_first_steps : (k : Known) (is_code : Bool) (at : ℕ) (x : tree.Expr) (found : Found) (uses : List Use) (spot inner inner2 : Spot) (m0 m1 m2 m3 : Measure) (r : Found)
    → spot ≡ root is_code → uses ≡ [] → m0 ≡ nothing found uses → m1 ≡ counted m0 spot → inner ≡ inside spot → m2 ≡ counted m1 inner → inner2 ≡ inside spot → m3 ≡ in_expr k inner2 x m2 → r ≡ limited m3 at
    → r ≡ behind_first k is_code at x found
behind_first_steps k is_code at x found uses spot inner inner2 m0 m1 m2 m3 r spot_is uses_are m0_is m1_is inner_is m2_is inner2_is m3_is r_is =
    let first : m1 ≡ counted (nothing found []) (root is_code) =
    m1_is ∙ ap (λ (m : Measure). counted m spot) (m0_is ∙ ap (nothing found) uses_are) ∙ ap (counted (nothing found [])) spot_is
    in
    let second : m2 ≡ counted (counted (nothing found []) (root is_code)) (inside (root is_code)) =
    m2_is ∙ ap (λ (m : Measure). counted m inner) first ∙ ap (counted (counted (nothing found []) (root is_code))) (inner_is ∙ ap inside spot_is)
    in
    let third : m3 ≡ in_expr k (inside (root is_code)) x (counted (counted (nothing found []) (root is_code)) (inside (root is_code))) =
    m3_is ∙ ap (λ (s : Spot). in_expr k s x m2) (inner2_is ∙ ap inside spot_is) ∙ ap (λ (m : Measure). in_expr k (inside (root is_code)) x m) second
    in
    r_is ∙ ap (λ (m : Measure). limited m at) third
