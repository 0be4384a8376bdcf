use Rattle.std.proofs.Common.{◌≡◌, ◌∙◌, false, true, length, rules}
use Rattle.std.proofs.lemmas.Result.{IfOk-weaker}
use Rattle.wy_check_splits.proofs.wy_check_nodes_proofs.BranchLemmas.{over_get}
use Rattle.wy_check_splits.specs.wy_check_nodes.Seen.{seen_branch}
use Rattle.wy_search_spec.specs.Splitting.{is_open}
use Rattle.wy_cong.proofs.FirstLemmas.{open_here, open_later}
use Rattle.wy_cong.proofs.choice.first_open.Goals as goal
use Rattle.wy_term.specs.Nodes.{tree_at}

pub judge-requires-clause-formula : goal.judge-requires-clause-formula
judge-requires-clause-formula c = over_get (length c.args.terms.now) c.args.branch.now.pending.keys c.loop-i.i c.pending_at-f.result c.requires.pending c.pending_at-f.ensures

pub first_undecided-requires-clause-formula : goal.first_undecided-requires-clause-formula
first_undecided-requires-clause-formula c = over_get (length c.args.terms.now) c.args.branch.now.pending.keys c.loop-i.i c.pending_at-f.result c.requires.pending c.pending_at-f.ensures

pub returns-then-is_open-clause-value : goal.returns-then-is_open-clause-value
returns-then-is_open-clause-value c =
    let at = tree_at c.args.terms.now in
    let node = seen_branch at c.args.branch.now in
    let up : is_open c.in_ok-verdict.verdict ≡ true = search rules in
    IfOk-weaker c.first_undecided.result _ _ (λ o is. is ∙ open_here at node c.args.branch.now.pending.keys c.loop-i.i c.pending_at-f.result c.in_ok-verdict.verdict _ c.pending_at-f.ensures c.in_ok-verdict.ensures.value c.loop-i.invariant.left up) c.first_undecided.ensures.value

pub loop-i-preserved : goal.loop-i-preserved
loop-i-preserved c =
    let at = tree_at c.args.terms.now in
    let node = seen_branch at c.args.branch.now in
    let un : is_open c.in_ok-verdict.verdict ≡ false = search rules in
    record {
      known = c.in_ok-verdict.ensures.known;
      left = open_later at node c.args.branch.now.pending.keys c.loop-i.i c.pending_at-f.result c.in_ok-verdict.verdict _ c.pending_at-f.ensures c.in_ok-verdict.ensures.value c.loop-i.invariant.left un;
    }
