use Rattle.std.proofs.Common.{◌≡◌, ◌∙◌, ℕ, ap, sym, subst, IfOk}
use Rattle.wy_core.specs.CoreTree as tree
use Rattle.wy_core.specs.declared.expressions.ExprKind as kind
use Rattle.wy_vc_spec.specs.Sizes as spec
use Rattle.wy_vc_tables.proofs.sizes_lemmas.SizeLemmas.{seen_record}
use Rattle.wy_vc_tables.proofs.sizes.counts.+sizes.Goals as goal

pub exprs_in-returns-in-Record : goal.exprs_in-returns-in-Record
exprs_in-returns-in-Record t c = record {
  value = subst (λ (x : tree.Expr ℕ). IfOk c.exprs_in_record.result (λ n. n ≡ spec.exprs_in x))
      (sym (seen_record c.args.expr.now c.as_slice-in-Record.result.now (c.in-Record.is ∙ ap kind.Record (sym c.as_slice-in-Record.ensures)))) c.exprs_in_record.ensures.value;
}
