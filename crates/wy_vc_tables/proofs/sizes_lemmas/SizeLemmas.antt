-- What a record stands for.
use Rattle.std.proofs.Common.{◌≡◌, ℕ, List, rules}
use Rattle.wy_core.specs.CoreTree as tree
use Rattle.wy_core.specs.CoreSeen.{seen_expr, seen_fields}
use Rattle.wy_core.specs.declared.expressions.Expr as e
use Rattle.wy_core.specs.declared.expressions.ExprKind as kind

pub seen_record : (x : e.Expr) (fs : List (List ℕ × e.Expr)) → x.kind ≡ kind.Record fs → seen_expr x ≡ tree.RecordExpr x.at (seen_fields fs)
seen_record x fs is = search (rules, e.the_lemmas)
