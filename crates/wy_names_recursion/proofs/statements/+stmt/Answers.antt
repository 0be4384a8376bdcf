use Rattle.std.proofs.Common.{◌≡◌, ◌∙◌, ap, sym, List, [], length, take, drop}
use Rattle.std.proofs.lemmas.List.{drop_all}
use Rattle.wy_ast.specs.SurfaceSeen.{seen_block}
use Rattle.wy_ast.specs.declared.statements.Stmt.{Stmt}
use Rattle.wy_names_scope.specs.Scope.{Scope}
use Rattle.wy_names_recursion.specs.StmtNames.{with_stmts}
use Rattle.wy_names_recursion.proofs.CutLemmas.{kept_stmts}
use Rattle.wy_names_recursion.proofs.statements.+stmt.Goals as goal

pub in_block-returns-clause-scope : goal.in_block-returns-clause-scope
in_block-returns-clause-scope t c =
    let gone : drop c.loop-stmt.stmt-index c.args.block.now ≡ [] = drop_all c.loop-stmt.stmt-index c.args.block.now c.loop-stmt-test.false in
    let behind : c.loop-stmt.scope ≡ with_stmts c.args.scope.now (seen_block c.args.block.now) =
    ap (λ (x : List Stmt). with_stmts c.loop-stmt.scope (seen_block x)) (sym gone) ∙ c.loop-stmt.invariant.scope
    in
    c.cut.ensures.value ∙ ap (λ n. take n c.loop-stmt.scope) c.len-mark.ensures.value ∙ ap (λ (x : Scope). take (length c.args.scope.now) x) behind
    ∙ kept_stmts c.args.scope.now (seen_block c.args.block.now)
