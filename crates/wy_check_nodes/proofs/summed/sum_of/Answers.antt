use Rattle.std.proofs.Common.{◌<◌, ℕ, All, length, sym, subst, ◌∙◌, arith}
use Rattle.wy_check_spec.specs.wy_term.Nodes.{tree_at}
use Rattle.wy_check_nodes.proofs.GatheredLemmas.{placed_below, sum_is, sum_over}
use Rattle.wy_check_nodes.proofs.summed.sum_of.Goals as goal

pub combine-requires : goal.combine-requires
combine-requires c = subst (All (λ (m : ℕ × ℕ). m.1 < length c.args.forms.now)) (sym (c.deref.ensures.value ∙ c.in_ok-multipliers.ensures)) (placed_below 0 (length c.args.forms.now) c.args.pairs.now (omega (arith, c.requires.many)))

pub returns-in-Ok-clause-value : goal.returns-in-Ok-clause-value
returns-in-Ok-clause-value c = λ ls gave.
    sum_is (tree_at c.args.terms.now) (length c.args.terms.now) (λ s t ls lt e. (c.one_number_for_each_term.ensures.one s t ls lt).1 e) ls c.args.forms.now c.args.pairs.now c.deref.result.now c.in-Ok.made c.requires.forms gave (c.deref.ensures.value ∙ c.in_ok-multipliers.ensures) c.in-Ok.ensures.value

pub returns-in-Ok-clause-within : goal.returns-in-Ok-clause-within
returns-in-Ok-clause-within c =
    sum_over (tree_at c.args.terms.now) (length c.args.terms.now) (λ s t ls lt e. (c.one_number_for_each_term.ensures.one s t ls lt).1 e) c.args.forms.now c.deref.result.now c.in-Ok.made c.requires.forms c.in-Ok.ensures.value
