use Rattle.std.proofs.Common.{length, ◌∙◌}
use Rattle.wy_term.specs.Nodes.{tree_at}
use Rattle.wy_check_splits.specs.wy_check_nodes.Seen.{seen_branch}
use Rattle.wy_check.proofs.StepLemmas.{sum_led}
use Rattle.wy_check.proofs.steps.by_sum.Goals as goal

pub returns-clause-value : goal.returns-clause-value
returns-clause-value c = λ types.
    let node = seen_branch (tree_at c.args.terms.now) c.args.branch.now in
    c.closes.ensures.value (tree_at c.is_refuting.new.terms) node ∙ sum_led types node c.args.pairs.now c.in_ok-valid.valid c.in_ok-valid.ensures.value

pub returns-clause-within : goal.returns-clause-within
returns-clause-within c = c.closes.ensures.within (length c.is_refuting.new.terms)
