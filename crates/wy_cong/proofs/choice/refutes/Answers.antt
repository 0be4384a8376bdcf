use Rattle.std.proofs.Common.{◌∙◌}
use Rattle.wy_cong.proofs.NearestLemmas.{refutes_is}
use Rattle.wy_cong.proofs.choice.refutes.Goals as goal
use Rattle.wy_check_splits.specs.wy_check_nodes.Seen.{seen_branch}
use Rattle.wy_term.specs.Nodes.{tree_at}

pub returns-clause-value : goal.returns-clause-value
returns-clause-value c =
    let at = tree_at c.args.terms.now in
    c.fails.ensures
    ∙ refutes_is at (seen_branch at c.args.branch.now) (seen_branch at c.add_literal.new.branch) c.args.unmet c.args.holds c.in_ok-verdict.verdict c.requires.undecided c.in_ok-add_literal.ensures.value c.in_ok-verdict.ensures.value
