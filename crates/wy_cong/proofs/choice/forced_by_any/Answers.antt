use Rattle.std.proofs.Common.{◌∙◌, ap}
use Rattle.wy_cong.proofs.NearestLemmas.{forced_by_all}
use Rattle.wy_cong.proofs.choice.forced_by_any.Goals as goal
use Rattle.wy_cong.specs.Once.{first_by, undecided}
use Rattle.wy_check_splits.specs.wy_check_nodes.Seen.{seen_branch}
use Rattle.wy_search_spec.specs.Splitting.{atoms_of}
use Rattle.wy_term.specs.Nodes.{tree_at}

pub returns-clause-value : goal.returns-clause-value
returns-clause-value c =
    let at = tree_at c.args.terms.now in
    let node = seen_branch at c.args.branch.now in
    c.undecided_in.ensures.value ∙ ap (first_by (undecided node)) c.in_ok-found.ensures.value ∙ forced_by_all node (atoms_of node.pending) c.requires.refuted
