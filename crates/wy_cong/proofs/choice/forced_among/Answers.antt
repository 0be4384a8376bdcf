use Rattle.std.proofs.Common.{◌≡◌, ◌∙◌, ap, length, rules}
use Rattle.std.proofs.lemmas.Result.{IfOk-weaker}
use Rattle.wy_cong.proofs.FirstLemmas.{forced_by, once_forced}
use Rattle.wy_cong.proofs.NearestLemmas.{none_forced}
use Rattle.wy_cong.proofs.OnceLemmas.{plain_listed}
use Rattle.wy_cong.proofs.choice.forced_among.Goals as goal
use Rattle.wy_cong.specs.Once.{first_by}
use Rattle.wy_check_splits.specs.wy_check_nodes.Seen.{seen_branch}
use Rattle.wy_search_spec.specs.Splitting.{atoms_of, is_forced}
use Rattle.wy_term.specs.Nodes.{tree_at}

pub returns-then-is_empty-clause-value : goal.returns-then-is_empty-clause-value
returns-then-is_empty-clause-value c =
    let at = tree_at c.args.terms.now in
    let node = seen_branch at c.args.branch.now in
    let none : length c.args.left.now ≡ 0 = search rules in
    none_forced at node c.args.left.now c.requires.left none ∙ forced_by node (atoms_of node.pending)

pub first_forced-requires-clause-plain : goal.first_forced-requires-clause-plain
first_forced-requires-clause-plain c =
    let node = seen_branch (tree_at c.args.terms.now) c.args.branch.now in
    plain_listed _ node.pending c.in_ok-found.ensures.value

pub returns-clause-value : goal.returns-clause-value
returns-clause-value c =
    let at = tree_at c.args.terms.now in
    let node = seen_branch at c.args.branch.now in
    IfOk-weaker c.first_forced.result _ _ (λ o is. is ∙ ap (first_by (is_forced node)) c.in_ok-found.ensures.value ∙ once_forced node (atoms_of node.pending)) c.first_forced.ensures.value
