use Rattle.wy_cong.proofs.UnmetLemmas.{notes_one, within_last}
use Rattle.std.proofs.Common.{length}
use Rattle.wy_cong.proofs.unmet.reach.Goals as goal
use Rattle.wy_check_splits.specs.wy_check_nodes.Seen.{seen_branch}
use Rattle.wy_term.specs.Nodes.{tree_at}

pub returns-in-Some-clause-value : goal.returns-in-Some-clause-value
returns-in-Some-clause-value c =
    let at = tree_at c.args.terms.now in
    notes_one at (seen_branch at c.args.branch.now).literals _ c.args.left.now.items c.push.new.self.items c.in-Some.ensures.value c.in_ok-push.ensures.items

pub returns-in-Some-clause-within : goal.returns-in-Some-clause-within
returns-in-Some-clause-within c =
    within_last (length c.args.terms.now) _ c.args.left.now.items c.push.new.self.items c.requires.within (record { formula = c.requires.formula; by = c.in-Some.ensures.below }) c.in_ok-push.ensures.items
