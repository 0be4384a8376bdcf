-- What the crates above prove of these words, each once.
use Rattle.std.proofs.Common.{◌≡◌, ℕ, List, Bool, rules}
use Rattle.wy_ast.specs.SurfaceTree as tree
use Rattle.wy_ast.specs.declared.expressions.Expr as e
use Rattle.wy_ast.specs.declared.expressions.ExprKind as kind
use Rattle.wy_ast.specs.SurfaceSeen.{seen_expr, seen_ranges}

pub seen_quant : (x : e.Expr) (all : Bool) (rs : List (List ℕ × e.Expr × e.Expr)) (body : e.Expr) → x.kind ≡ kind.Quant all rs body
    → seen_expr x ≡ tree.QuantExpr x.at all (seen_ranges rs) (seen_expr body)
seen_quant x all rs body is = search (rules, e.the_lemmas)
