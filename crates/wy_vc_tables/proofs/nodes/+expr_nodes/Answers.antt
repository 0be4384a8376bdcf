use Rattle.std.proofs.Common.{◌≡◌, ◌∙◌, ℕ, ap, sym, subst, IfOk}
use Rattle.wy_core.specs.CoreTree as tree
use Rattle.wy_core.specs.declared.expressions.ExprKind as kind
use Rattle.wy_vc_spec.specs.Named as spec
use Rattle.wy_vc_tables.proofs.sizes_lemmas.SizeLemmas.{seen_record}
use Rattle.wy_vc_tables.specs.Mentions.{no_nodes}
use Rattle.wy_vc_tables.proofs.nodes.+expr_nodes.Goals as goal

pub nodes_in_expr-returns-in-Record : goal.nodes_in_expr-returns-in-Record
nodes_in_expr-returns-in-Record t c = record {
  value = subst (λ (x : tree.Expr ℕ). IfOk c.nodes_in_record.result (λ n. n ≡ spec.nodes_of_expr no_nodes x))
      (sym (seen_record c.args.expr.now c.as_slice-in-Record.result.now (c.in-Record.is ∙ ap kind.Record (sym c.as_slice-in-Record.ensures)))) c.nodes_in_record.ensures.value;
}
