use Rattle.std.proofs.Common.{◌≡◌, ◌+◌, true, false, map, refl, sym, subst, rules}
use Rattle.wy_term.specs.Nodes.{tree_at}
use Rattle.wy_prove_rounds.specs.wy_cong.Seen.{terms_of}
use Rattle.wy_prove_leaves.specs.wy_search_spec.Standing.{present}
use Rattle.wy_prove_leaves.specs.wy_search_spec.Expansion.{Spot}
use Rattle.wy_prove_rounds.specs.wy_search.StatedSeen.{seen_spot}
use Rattle.wy_prove_leaves.specs.wy_search_laws.rounds.Leaves.{IsLeaf}
use Rattle.wy_prove_rounds.specs.wy_prove_drafts.Draft.{seen_draft}
use Rattle.wy_prove.specs.Plans.{IsEnded}
use Rattle.wy_prove.specs.Tracks.{IsLeft}
use Rattle.wy_prove.specs.Walks.{seen_waiting}
use Rattle.wy_prove.proofs.WalkLemmas.{closed_left, stands_beside, stands_so, waiting_seen, waiting_stay}
use Rattle.wy_prove.proofs.walking.on_leaf.Goals as goal

pub returns-then-branch-clause-value : goal.returns-then-branch-clause-value
returns-then-branch-clause-value c = λ k v p h judged.
    let old = c.args.terms.now in
    let at = tree_at old in
    let new = c.close_leaf.new.terms in
    let q = seen_spot at c.args.leaf.now.spot in
    let d = seen_draft at c.args.draft in
    let e = seen_draft (tree_at new) c.close_leaf.new.draft in
    let ws = map (seen_waiting at) c.args.waiting.items in
    let up : c.in_ok-close_leaf.field-0 ≡ true = search rules in
    let stands = stands_so k c.args.budget v c.args.leaves p q d d ws ws judged.1 refl refl h in
    let leaf = subst (λ (x : Spot). IsLeaf x.node) (sym judged.1) judged.0 in
    let here = subst (λ (x : Spot). terms_of at c.args.leaf.now.plan.present ≡ present x.node) (sym judged.1) judged.2 in
    let ends = subst (IsEnded k.types d e) up (c.in_ok-close_leaf.ensures.value k.types (stands_beside k c.args.budget v c.args.leaves q d ws k.types refl stands) leaf here) in
    c.close.ensures.value k v (tree_at new)
    (subst (IsLeft k c.args.budget v (c.args.leaves + 1) e.steps) (sym (waiting_seen old new c.args.waiting.items c.in_ok-close_leaf.ensures.stays c.requires.waiting))
    (closed_left k c.args.budget v c.args.leaves (c.args.leaves + 1) q d e ws c.requires.leaves refl leaf ends stands))

pub returns-then-branch-clause-turned : goal.returns-then-branch-clause-turned
returns-then-branch-clause-turned c = c.close.ensures.turned c.close_leaf.new.terms c.in_ok-close_leaf.ensures.draft (waiting_stay c.args.terms.now c.close_leaf.new.terms c.args.waiting.items c.in_ok-close_leaf.ensures.stays c.requires.waiting)

pub returns-else-branch-clause-value : goal.returns-else-branch-clause-value
returns-else-branch-clause-value c = λ k v p h judged.
    let at = tree_at c.args.terms.now in
    let q = seen_spot at c.args.leaf.now.spot in
    let d = seen_draft at c.args.draft in
    let e = seen_draft (tree_at c.close_leaf.new.terms) c.close_leaf.new.draft in
    let ws = map (seen_waiting at) c.args.waiting.items in
    let un : c.in_ok-close_leaf.field-0 ≡ false = search rules in
    let stands = stands_so k c.args.budget v c.args.leaves p q d d ws ws judged.1 refl refl h in
    absurd (subst (IsEnded k.types d e) un
    (c.in_ok-close_leaf.ensures.value k.types (stands_beside k c.args.budget v c.args.leaves q d ws k.types refl stands) (subst (λ (x : Spot). IsLeaf x.node) (sym judged.1) judged.0)
    (subst (λ (x : Spot). terms_of at c.args.leaf.now.plan.present ≡ present x.node) (sym judged.1) judged.2)))
