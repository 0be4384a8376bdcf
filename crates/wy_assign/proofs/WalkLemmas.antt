-- An `if` and a loop, where their parts are read one behind the other.
use Rattle.std.proofs.Common.{◌≡◌, ◌∙◌, ℕ, List, ap, sym, rules}
use Rattle.wy_core.specs.CoreTree as tree
use Rattle.wy_core.specs.CoreSeen.{seen_expr, seen_block, seen_stmt}
use Rattle.wy_core.specs.declared.expressions.Expr.{Expr}
use Rattle.wy_core.specs.declared.statements.Stmt as s
use Rattle.wy_core.specs.declared.statements.Stmt.{Stmt}
use Rattle.wy_core.specs.declared.statements.StmtKind as kind
use Rattle.wy_assign.specs.Marks.{Marks}
use Rattle.wy_assign.specs.Flows.{otherwise, rejoined, flow, flow_all}
use Rattle.wy_assign.specs.Faults.{walked, walked_all, tested, begun_else, ended_if}
use Rattle.wy_assign.specs.declared.flow.Flow.{Flow}
use Rattle.wy_assign.specs.declared.flow.Walk.{Walk}

seen_if : (x : Stmt) (e : Expr) (a b : List Stmt) → x.kind ≡ kind.If e a b → seen_stmt x ≡ tree.IfStmt x.at (seen_expr e) (seen_block a) (seen_block b)
seen_if x e a b is = search (rules, s.the_lemmas)

pub if_flow : (x : Stmt) (f : Flow) (e : Expr) (a b : List Stmt) → x.kind ≡ kind.If e a b → (m : Marks) → m ≡ f.here → (a2 : List Stmt) → a2 ≡ a → (g : Flow) → g ≡ flow_all (seen_block a2) f
    → (n : Marks) → n ≡ g.here → (st : Flow) → st ≡ otherwise m g → (b2 : List Stmt) → b2 ≡ b → (h : Flow) → h ≡ flow_all (seen_block b2) st
    → rejoined n h ≡ flow (seen_stmt x) f
if_flow x f e a b is m m_is a2 a_is g g_is n n_is st st_is b2 b_is h h_is =
    ap (λ (z : Marks). rejoined z h) n_is
    ∙ ap (λ (z : Flow). rejoined g.here z) h_is
    ∙ ap (λ (z : List Stmt). rejoined g.here (flow_all (seen_block z) st)) b_is
    ∙ ap (λ (z : Flow). rejoined g.here (flow_all (seen_block b) z)) st_is
    ∙ ap (λ (z : Marks). rejoined g.here (flow_all (seen_block b) (otherwise z g))) m_is
    ∙ ap (λ (z : Flow). rejoined z.here (flow_all (seen_block b) (otherwise f.here z))) g_is
    ∙ ap (λ (z : List Stmt). rejoined (flow_all (seen_block z) f).here (flow_all (seen_block b) (otherwise f.here (flow_all (seen_block z) f)))) a_is
    ∙ sym (ap (λ (y : tree.Stmt ℕ). flow y f) (seen_if x e a b is))

pub if_walk : (x : Stmt) (w : Walk) (e e2 : Expr) (a b : List Stmt) → x.kind ≡ kind.If e a b → e2 ≡ e → (m : Marks) → m ≡ w.flow.here → (v : Walk) → v ≡ tested (seen_expr e2) w
    → (a2 : List Stmt) → a2 ≡ a → (g : Walk) → g ≡ walked_all (seen_block a2) v
    → (n : Marks) → n ≡ g.flow.here → (st : Walk) → st ≡ begun_else m g → (b2 : List Stmt) → b2 ≡ b → (h : Walk) → h ≡ walked_all (seen_block b2) st
    → ended_if n h ≡ walked (seen_stmt x) w
if_walk x w e e2 a b is e_is m m_is v v_is a2 a_is g g_is n n_is st st_is b2 b_is h h_is =
    ap (λ (z : Marks). ended_if z h) n_is
    ∙ ap (λ (z : Walk). ended_if g.flow.here z) h_is
    ∙ ap (λ (z : List Stmt). ended_if g.flow.here (walked_all (seen_block z) st)) b_is
    ∙ ap (λ (z : Walk). ended_if g.flow.here (walked_all (seen_block b) z)) st_is
    ∙ ap (λ (z : Marks). ended_if g.flow.here (walked_all (seen_block b) (begun_else z g))) m_is
    ∙ ap (λ (z : Walk). ended_if z.flow.here (walked_all (seen_block b) (begun_else w.flow.here z))) g_is
    ∙ ap (λ (z : List Stmt). ended_if (walked_all (seen_block z) v).flow.here (walked_all (seen_block b) (begun_else w.flow.here (walked_all (seen_block z) v)))) a_is
    ∙ ap (λ (z : Walk). ended_if (walked_all (seen_block a) z).flow.here (walked_all (seen_block b) (begun_else w.flow.here (walked_all (seen_block a) z)))) v_is
    ∙ ap (λ (z : Expr). ended_if (walked_all (seen_block a) (tested (seen_expr z) w)).flow.here (walked_all (seen_block b) (begun_else w.flow.here (walked_all (seen_block a) (tested (seen_expr z) w))))) e_is
    ∙ sym (ap (λ (y : tree.Stmt ℕ). walked y w) (seen_if x e a b is))
