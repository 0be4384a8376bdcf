-- An `if` whose parts are read one behind the other.
use Rattle.std.proofs.Common.{◌≡◌, ◌∙◌, ℕ, List, ap, sym, rules}
use Rattle.wy_core.specs.CoreTree as tree
use Rattle.wy_core.specs.CoreSeen.{seen_expr, seen_block, seen_stmt}
use Rattle.wy_core.specs.declared.expressions.Expr.{Expr}
use Rattle.wy_core.specs.declared.statements.Stmt as s
use Rattle.wy_core.specs.declared.statements.Stmt.{Stmt}
use Rattle.wy_core.specs.declared.statements.StmtKind as kind
use Rattle.wy_live.specs.Sets.{Variables}
use Rattle.wy_live.specs.Walks.{with_live, walked, walked_all, if_ended}
use Rattle.wy_live.specs.declared.walk.Ends.{Ends}
use Rattle.wy_live.specs.declared.walk.Walk.{Walk}

seen_if : (x : Stmt) (e : Expr) (a b : List Stmt) → x.kind ≡ kind.If e a b → seen_stmt x ≡ tree.IfStmt x.at (seen_expr e) (seen_block a) (seen_block b)
seen_if x e a b is = search (rules, s.the_lemmas)

pub if_walk : (x : Stmt) (ends : Ends) (w : Walk) (e e2 : Expr) (a b : List Stmt) → x.kind ≡ kind.If e a b → e2 ≡ e → (v : Variables) → v ≡ w.live → (b2 : List Stmt) → b2 ≡ b → (g : Walk) → g ≡ walked_all (seen_block b2) ends w
    → (s : Variables) → s ≡ g.live → (st : Walk) → st ≡ with_live v g → (a2 : List Stmt) → a2 ≡ a → (h : Walk) → h ≡ walked_all (seen_block a2) ends st
    → if_ended (seen_expr e2) h s ≡ walked (seen_stmt x) ends w
if_walk x ends w e e2 a b is e_is v v_is b2 b_is g g_is s s_is st st_is a2 a_is h h_is =
    ap (λ (z : Expr). if_ended (seen_expr z) h s) e_is
    ∙ ap (λ (z : Variables). if_ended (seen_expr e) h z) s_is
    ∙ ap (λ (z : Walk). if_ended (seen_expr e) z g.live) h_is
    ∙ ap (λ (z : List Stmt). if_ended (seen_expr e) (walked_all (seen_block z) ends st) g.live) a_is
    ∙ ap (λ (z : Walk). if_ended (seen_expr e) (walked_all (seen_block a) ends z) g.live) st_is
    ∙ ap (λ (z : Variables). if_ended (seen_expr e) (walked_all (seen_block a) ends (with_live z g)) g.live) v_is
    ∙ ap (λ (z : Walk). if_ended (seen_expr e) (walked_all (seen_block a) ends (with_live w.live z)) z.live) g_is
    ∙ ap (λ (z : List Stmt). if_ended (seen_expr e) (walked_all (seen_block a) ends (with_live w.live (walked_all (seen_block z) ends w))) (walked_all (seen_block z) ends w).live) b_is
    ∙ sym (ap (λ (y : tree.Stmt ℕ). walked y ends w) (seen_if x e a b is))
