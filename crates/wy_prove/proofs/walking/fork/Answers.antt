use Rattle.std.proofs.Common.{◌≡◌, true, false, map, ap, sym, subst, rules}
use Rattle.wy_term.specs.Nodes.{tree_at}
use Rattle.wy_prove_explaining.specs.wy_check_nodes.Seen.{seen_branch}
use Rattle.wy_prove_rounds.specs.wy_search.StatedSeen.{seen_spot}
use Rattle.wy_prove_rounds.specs.wy_prove_drafts.Progress.{Splits}
use Rattle.wy_prove_rounds.specs.wy_prove_drafts.Draft.{seen_draft}
use Rattle.wy_prove.specs.Walks.{seen_waiting, AreWaiting}
use Rattle.wy_prove.proofs.WalkLemmas.{fork_left, fork_never}
use Rattle.wy_prove.proofs.walking.fork.Goals as goal

pub returns-then-not-splits-clause-value : goal.returns-then-not-splits-clause-value
returns-then-not-splits-clause-value c = λ k budget v p below h judged.
    let at = tree_at c.args.terms.now in
    let d = seen_draft at c.args.draft in
    let e = seen_draft at c.write_split.new.draft in
    let un : c.in_ok-splits.splits ≡ false = search rules in
    absurd (fork_never k budget v c.args.leaves p d e (at c.args.atom) (map (seen_waiting at) c.args.waiting.items) judged.1 (subst (Splits (at c.args.atom) d e) un c.in_ok-splits.ensures.value) h)

pub returns-clause-value : goal.returns-clause-value
returns-clause-value c = λ k budget v p below h judged.
    let at = tree_at c.args.terms.now in
    let d = seen_draft at c.args.draft in
    let e = seen_draft at c.write_split.new.draft in
    let f = seen_draft at c.both_sides.new.draft in
    let up : c.in_ok-splits.splits ≡ true = search rules in
    fork_left k budget v c.args.leaves p (seen_spot at c.args.left) (seen_spot at c.args.right) d e f (seen_branch at c.in_ok-branch.branch) (at c.args.atom) (map (seen_waiting at) c.args.waiting.items) (map (seen_waiting at) c.in_ok-waiting.waiting.items)
    below judged.0 judged.1 judged.2 judged.3 (subst (Splits (at c.args.atom) d e) up c.in_ok-splits.ensures.value) c.in_ok-branch.ensures.first c.in_ok-branch.ensures.second
    (ap (map (seen_waiting at)) c.in_ok-waiting.ensures) h

pub returns-clause-turned : goal.returns-clause-turned
returns-clause-turned c = λ budget le. (
  record {
    draft = c.in_ok-branch.ensures.draft;
    spot = c.requires.left;
    waiting = subst (AreWaiting c.args.terms.now) (sym c.in_ok-waiting.ensures) (c.requires.right, c.in_ok-branch.ensures.branch, c.requires.waiting);
  },
  le,
)
