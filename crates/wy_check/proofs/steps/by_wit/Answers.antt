use Rattle.std.proofs.Common.{◌∙◌}
use Rattle.std.specs.Prelude.{option_map}
use Rattle.wy_term.specs.Nodes.{tree_at}
use Rattle.wy_facts.specs.Seen.{terms_at}
use Rattle.wy_check_splits.specs.wy_check_nodes.Seen.{seen_branch}
use Rattle.wy_check.proofs.StepLemmas.{wit_led}
use Rattle.wy_check.proofs.steps.by_wit.Goals as goal

pub returns-clause-value : goal.returns-clause-value
returns-clause-value c = λ types.
    let node = seen_branch (tree_at c.args.terms.now) c.args.branch.now in
    let new = c.witness_stated.new.terms in
    c.adds.ensures.value new node ∙ wit_led types node c.args.i (option_map (λ fs. terms_at new fs.items) c.in_ok-stated.stated) c.in_ok-stated.ensures.value
