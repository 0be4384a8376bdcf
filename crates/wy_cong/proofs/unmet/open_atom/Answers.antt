use Rattle.std.proofs.Common.{◌≡◌, rules}
use Rattle.wy_cong.proofs.MoreLemmas.{denied_open}
use Rattle.wy_cong.proofs.unmet.open_atom.Goals as goal
use Rattle.wy_check_splits.specs.wy_check_nodes.Seen.{seen_branch}
use Rattle.wy_term.specs.Nodes.{tree_at}
use Rattle.wy_term.specs.Term.{Of, part, no_parts, denied}

pub returns-in-Not-clause-open : goal.returns-in-Not-clause-open
returns-in-Not-clause-open c =
    let at = tree_at c.args.terms.now in
    let is : at c.args.f ≡ Of denied (part (at c.in-Not.g) no_parts) = search rules in
    denied_open at (seen_branch at c.args.branch.now).literals (at c.args.f) (at c.in-Not.g) c.if_undecided.result is c.if_undecided.ensures.open
