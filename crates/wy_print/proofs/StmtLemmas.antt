-- What statements are written as, by their kinds.
use Rattle.std.proofs.Common.{◌≡◌, ℕ, List, ◌++◌, rules, codes}
use Rattle.wy_ast.specs.declared.expressions.Expr.{Expr}
use Rattle.wy_ast.specs.declared.statements.Stmt.{Stmt, the_lemmas}
use Rattle.wy_ast.specs.declared.statements.StmtKind as kind
use Rattle.wy_print.specs.Pieces.{line_end}
use Rattle.wy_print.specs.ExprText.{expr_text}
use Rattle.wy_print.specs.StmtText.{stmt_text, block_text, otherwise_text, while_text, for_text}

pub if_text : (s : Stmt) (margin : List ℕ) (test : Expr) (first second : List Stmt) → s.kind ≡ kind.If test first second
    → stmt_text margin s ≡ codes "if " ++ (expr_text test ++ (block_text margin first ++ otherwise_text margin second))
if_text s margin test first second is = search (rules, the_lemmas)

pub while_stmt_text : (s : Stmt) (margin : List ℕ) (test : Expr) (invariants : List Expr) (body : List Stmt) → s.kind ≡ kind.While test invariants body
    → stmt_text margin s ≡ while_text test invariants margin ++ block_text margin body
while_stmt_text s margin test invariants body is = search (rules, the_lemmas)

pub do_text : (s : Stmt) (margin : List ℕ) (body : List Stmt) (test : Expr) (invariants : List Expr) → s.kind ≡ kind.Do body test invariants
    → stmt_text margin s ≡ codes "do" ++ (block_text margin body ++ (margin ++ (while_text test invariants margin ++ line_end)))
do_text s margin body test invariants is = search (rules, the_lemmas)

pub for_stmt_text : (s : Stmt) (margin name : List ℕ) (from to : Expr) (invariants : List Expr) (body : List Stmt) → s.kind ≡ kind.For name from to invariants body
    → stmt_text margin s ≡ for_text name from to invariants margin ++ block_text margin body
for_stmt_text s margin name from to invariants body is = search (rules, the_lemmas)
