use Rattle.std.proofs.Common.{◌≡◌, ℕ, IfOk, List, subst}
use Rattle.wy_types.specs.declared.conjuncts.Signed.{Signed}
use Rattle.wy_canon.proofs.StepLemmas.{with_sides-step}
use Rattle.wy_canon.proofs.normal_forms.+sides.Goals as goal

pub with_sides-returns : goal.with_sides-returns
with_sides-returns t c = record {
  value =
      subst (λ (x : List (Signed ℕ)). IfOk c.node_sides.result (λ made. made ≡ x))
      (with_sides-step c.args.table.now c.args.depth c.args.part c.args.up c.args.inside c.args.term c.node_of-node.result.now c.if-depth-eq0.false c.node_of-node.ensures.value) c.node_sides.ensures.value;
}
