use Rattle.std.proofs.Common.{◌≡◌, ◌∙◌, ◌≤◌, true, length, rules, subst}
use Rattle.wy_cong.proofs.UnmetLemmas.{by_verdict, enough_end, enough_next, no_at}
use Rattle.wy_cong.proofs.unmet.unmet.Goals as goal
use Rattle.wy_check_splits.proofs.wy_check_nodes_proofs.BranchLemmas.{over_get}
use Rattle.wy_check_splits.specs.wy_check_nodes.Judged.{fails}
use Rattle.wy_check_splits.specs.wy_check_nodes.Seen.{seen_branch}
use Rattle.wy_term.specs.Nodes.{tree_at}

pub judge-requires-clause-formula : goal.judge-requires-clause-formula
judge-requires-clause-formula c = over_get (length c.args.terms.now) c.args.branch.now.pending.keys c.loop-i.i c.pending_at-pending.result c.requires.pending c.pending_at-pending.ensures

pub returns-then-fails-clause-refuted : goal.returns-then-fails-clause-refuted
returns-then-fails-clause-refuted c =
    let at = tree_at c.args.terms.now in
    let ls = (seen_branch at c.args.branch.now).literals in
    let up : fails c.in_ok-verdict.verdict c.pending_at-pending.result.1 ≡ true = search rules in
    no_at at ls c.args.branch.now.pending.keys c.loop-i.i c.pending_at-pending.result c.pending_at-pending.ensures (by_verdict at ls c.pending_at-pending.result c.in_ok-verdict.verdict c.in_ok-verdict.ensures.value ∙ up)

pub reach-requires-clause-formula : goal.reach-requires-clause-formula
reach-requires-clause-formula c = over_get (length c.args.terms.now) c.args.branch.now.pending.keys c.loop-i.i c.pending_at-pending.result c.requires.pending c.pending_at-pending.ensures

pub loop-i-preserved : goal.loop-i-preserved
loop-i-preserved c =
    let at = tree_at c.args.terms.now in
    let node = seen_branch at c.args.branch.now in
    record {
      known = c.in_ok-verdict.ensures.known;
      so = enough_next at node.literals node.pending c.args.branch.now.pending.keys c.loop-i.i c.pending_at-pending.result c.loop-i.left.items c.reach.new.left.items c.pending_at-pending.ensures c.in_ok-reach.ensures.value c.loop-i.invariant.so;
      within = c.in_ok-reach.ensures.within;
    }

pub returns-clause-value : goal.returns-clause-value
returns-clause-value c =
    let at = tree_at c.args.terms.now in
    let le : length c.args.branch.now.pending.keys ≤ c.loop-i.i = subst (λ n. n ≤ c.loop-i.i) c.len-i-end.ensures.len c.loop-i-test.false in
    enough_end at (seen_branch at c.args.branch.now) c.args.branch.now.pending.keys c.loop-i.left.items c.loop-i.i le c.loop-i.invariant.so
