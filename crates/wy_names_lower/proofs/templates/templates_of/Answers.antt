use Rattle.std.proofs.Common.{◌∙◌}
use Rattle.std.proofs.lemmas.List.{drop_more}
use Rattle.std.specs.Option.{option_copied}
use Rattle.wy_names_lower.proofs.UseLemmas.{filled_turn}
use Rattle.wy_names_lower.proofs.templates.templates_of.Goals as goal

pub loop-index-preserved : goal.loop-index-preserved
loop-index-preserved c = record {
  scope = c.in_ok-made-2.ensures.scope ∙ c.loop-index.invariant.scope;
  value = filled_turn c.args.scope.now c.loop-index.scope c.args.decls.now c.args.expansions.now c.args.order.now c.loop-index.index-index _ c.loop-index.made c.in_ok-made-2.made c.in_ok-used.used (option_copied c.at.result)
      (option_copied c.at-in-loop-index.result) _ (drop_more c.args.order.now c.loop-index.index-index _ c.loop-index-test.true) c.loop-index.invariant.scope c.at.ensures c.in_ok-used.ensures.value c.at-in-loop-index.ensures
      c.in_ok-made-2.ensures.value c.loop-index.invariant.value;
}
