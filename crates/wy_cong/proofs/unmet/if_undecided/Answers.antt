use Rattle.std.proofs.Common.{◌≡◌, ◌∙◌, true, false, sym, rules}
use Rattle.wy_cong.proofs.MoreLemmas.{atom_stays}
use Rattle.wy_cong.proofs.unmet.if_undecided.Goals as goal
use Rattle.wy_check_splits.specs.wy_check_nodes.Seen.{seen_branch}
use Rattle.wy_term.specs.Nodes.{tree_at}

pub returns-clause-open : goal.returns-clause-open
returns-clause-open c =
    let at = tree_at c.args.terms.now in
    let flat : c.is_connective.result ≡ false = search rules in
    let up : c.is_undecided.result ≡ true = search rules in
    atom_stays (seen_branch at c.args.branch.now).literals (at c.args.a) (sym c.is_connective.ensures ∙ flat) (sym c.is_undecided.ensures.value ∙ up)
