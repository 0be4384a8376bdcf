use Rattle.std.proofs.Common.{[], ◌∷◌}
use Rattle.wy_term.specs.Nodes.{tree_at}
use Rattle.wy_term.specs.declared.cond.CondKind.TheVariants as kinds
use Rattle.wy_vc_terms.specs.wy_vc_spec.Walks.{goals_of, range_goals, divisor_goals}
use Rattle.wy_vc_exprs.proofs.ResultLemmas.{on_ok}
use Rattle.wy_vc_exprs.proofs.StepLemmas.{goals_then, quotient_range}
use Rattle.wy_vc_exprs.proofs.steps.owe_quotient.Goals as goal

pub returns-clause-value : goal.returns-clause-value
returns-clause-value c =
    let first = c.in_ok-owe_divisor.ensures.value in
    let a = c.args.walk.now in
    let b = c.owe_divisor.new.walk in
    let d = c.owe_range.new.walk in
    on_ok c.owe_range.result _ _ c.owe_range.ensures.value
    (λ s. goals_then c.args.at a b d (goals_of kinds.Divisor (divisor_goals (tree_at a.maker.terms c.args.w))) (goals_of kinds.Range (range_goals (tree_at a.maker.terms c.args.made)) ∷ []) first
    (quotient_range c.args.at a b d c.args.made (first.kept.trees c.args.made c.requires.made) s))
