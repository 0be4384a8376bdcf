-- What a statement is, by its kind, where its parts were read by reference.
use Rattle.std.proofs.Common.{◌≡◌, ◌∙◌, ℕ, List, map, sym, ap}
use Rattle.wy_core.specs.CoreSeen.{seen_block, seen_expr, seen_exprs, seen_step, seen_stmt}
use Rattle.wy_core.specs.CoreTree as tree
use Rattle.wy_core.specs.declared.expressions.Expr as e
use Rattle.wy_core.specs.declared.statements.Stmt as st
use Rattle.wy_core.specs.declared.statements.StmtKind as kind
use Rattle.wy_core.specs.declared.statements.Step.{Step}
use Rattle.wy_vc_body.proofs.SeenLemmas.{seen_assign, seen_call, seen_if, seen_while}

pub assign_of : (x : st.Stmt) (v : ℕ) (path path' : List Step) (value : e.Expr) → x.kind ≡ kind.Assign v path value → path' ≡ path → seen_stmt x ≡ tree.AssignStmt x.at v (map seen_step path') (seen_expr value)
assign_of x v path path' value is same = seen_assign x v path value is ∙ ap (λ (l : List Step). tree.AssignStmt x.at v (map seen_step l) (seen_expr value)) (sym same)

pub call_of : (x : st.Stmt) (routine : ℕ) (args args' : List e.Expr) → x.kind ≡ kind.Call routine args → args' ≡ args → seen_stmt x ≡ tree.CallStmt x.at routine (tree.exprs_of (seen_exprs args'))
call_of x routine args args' is same = seen_call x routine args is ∙ ap (λ (l : List e.Expr). tree.CallStmt x.at routine (tree.exprs_of (seen_exprs l))) (sym same)

pub if_of : (x : st.Stmt) (test : e.Expr) (first second first' second' : List st.Stmt) → x.kind ≡ kind.If test first second → first' ≡ first → second' ≡ second → seen_stmt x ≡ tree.IfStmt x.at (seen_expr test) (seen_block first') (seen_block second')
if_of x test first second first' second' is one two =
    seen_if x test first second is ∙ ap (λ (l : List st.Stmt). tree.IfStmt x.at (seen_expr test) (seen_block l) (seen_block second)) (sym one)
    ∙ ap (λ (l : List st.Stmt). tree.IfStmt x.at (seen_expr test) (seen_block first') (seen_block l)) (sym two)

pub while_of : (x : st.Stmt) (test : e.Expr) (invariants invariants' : List e.Expr) (body body' : List st.Stmt) → x.kind ≡ kind.While test invariants body → invariants' ≡ invariants → body' ≡ body
    → seen_stmt x ≡ tree.WhileStmt x.at (seen_expr test) (seen_exprs invariants') (seen_block body')
while_of x test invariants invariants' body body' is one two =
    seen_while x test invariants body is ∙ ap (λ (l : List e.Expr). tree.WhileStmt x.at (seen_expr test) (seen_exprs l) (seen_block body)) (sym one)
    ∙ ap (λ (l : List st.Stmt). tree.WhileStmt x.at (seen_expr test) (seen_exprs invariants') (seen_block l)) (sym two)
