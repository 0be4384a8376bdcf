use Rattle.std.proofs.Common.{◌≡◌, true, rules}
use Rattle.wy_cong.proofs.MoreLemmas.{met_safe}
use Rattle.wy_cong.proofs.unmet.is_safe.Goals as goal
use Rattle.wy_cong.specs.Unmet.{meets}
use Rattle.wy_check_splits.specs.wy_check_nodes.Seen.{seen_branch}
use Rattle.wy_term.specs.Nodes.{tree_at}

pub returns-then-meets : goal.returns-then-meets
returns-then-meets c = λ e.
    let at = tree_at c.args.terms.now in
    let up : meets c.args.verdict c.args.holds ≡ true = search rules in
    met_safe (seen_branch at c.args.branch.now).literals (at c.args.f) c.args.holds c.args.verdict c.requires.verdict up
