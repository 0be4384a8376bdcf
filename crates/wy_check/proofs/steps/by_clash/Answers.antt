use Rattle.std.proofs.Common.{length, sym, ◌∙◌}
use Rattle.wy_term.specs.Nodes.{tree_at}
use Rattle.wy_check_splits.specs.wy_check_nodes.Seen.{seen_branch}
use Rattle.wy_check.proofs.StepLemmas.{clash_led, clash_none}
use Rattle.wy_check.proofs.steps.by_clash.Goals as goal

pub returns-in-Some-clause-value : goal.returns-in-Some-clause-value
returns-in-Some-clause-value c = λ types.
    let node = seen_branch (tree_at c.args.terms.now) c.args.branch.now in
    c.closes.ensures.value (tree_at c.args.terms.now) node ∙ clash_led types node c.args.i c.args.other c.in-Some.yes (sym c.in-Some.is ∙ c.in_ok-yes.ensures)

pub returns-in-None-clause-value : goal.returns-in-None-clause-value
returns-in-None-clause-value c = λ types. clash_none types (seen_branch (tree_at c.args.terms.now) c.args.branch.now) c.args.i c.args.other (sym c.in-None.is ∙ c.in_ok-yes.ensures)

pub returns-in-Some-clause-within : goal.returns-in-Some-clause-within
returns-in-Some-clause-within c = c.closes.ensures.within (length c.args.terms.now)
