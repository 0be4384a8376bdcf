use Rattle.std.proofs.Common.{◌≡◌, ◌+◌, true, false, map, refl, subst, rules}
use Rattle.wy_term.specs.Nodes.{tree_at}
use Rattle.wy_prove_rounds.specs.wy_prove_drafts.Draft.{seen_draft}
use Rattle.wy_prove.specs.Plans.{IsEnded}
use Rattle.wy_prove.specs.Walks.{seen_waiting}
use Rattle.wy_prove.proofs.WalkLemmas.{shut_ends, shut_left, stands_beside}
use Rattle.wy_prove.proofs.walking.on_shut.Goals as goal

pub returns-then-branch-clause-value : goal.returns-then-branch-clause-value
returns-then-branch-clause-value c = λ k v p h judged.
    let at = tree_at c.args.terms.now in
    let d = seen_draft at c.args.draft in
    let e = seen_draft at c.close_by_shut.new.draft in
    let ws = map (seen_waiting at) c.args.waiting.items in
    let up : c.in_ok-close_by_shut.field-0 ≡ true = search rules in
    let ends = subst (IsEnded k.types d e) up (shut_ends k.types p d e c.in_ok-close_by_shut.field-0 judged (stands_beside k c.args.budget v c.args.leaves p d ws k.types refl h) (c.in_ok-close_by_shut.ensures.value k.types)) in
    c.close.ensures.value k v at (shut_left k c.args.budget v c.args.leaves (c.args.leaves + 1) p d e ws c.requires.leaves refl judged ends h)

pub returns-else-branch-clause-value : goal.returns-else-branch-clause-value
returns-else-branch-clause-value c = λ k v p h judged.
    let at = tree_at c.args.terms.now in
    let d = seen_draft at c.args.draft in
    let e = seen_draft at c.close_by_shut.new.draft in
    let ws = map (seen_waiting at) c.args.waiting.items in
    let un : c.in_ok-close_by_shut.field-0 ≡ false = search rules in
    absurd (subst (IsEnded k.types d e) un (shut_ends k.types p d e c.in_ok-close_by_shut.field-0 judged (stands_beside k c.args.budget v c.args.leaves p d ws k.types refl h) (c.in_ok-close_by_shut.ensures.value k.types)))

pub returns-then-branch-clause-turned : goal.returns-then-branch-clause-turned
returns-then-branch-clause-turned c = c.close.ensures.turned c.args.terms.now c.in_ok-close_by_shut.ensures.draft c.requires.waiting
