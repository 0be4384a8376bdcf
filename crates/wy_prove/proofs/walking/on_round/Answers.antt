use Rattle.std.proofs.Common.{◌≡◌, Option, None, map, refl, sym, subst}
use Rattle.std.specs.Prelude.{IfSome}
use Rattle.wy_term.specs.Nodes.{tree_at}
use Rattle.wy_term.specs.Condition.{condition_of}
use Rattle.wy_prove_leaves.specs.wy_search_spec.Bounds.{ending}
use Rattle.wy_prove_leaves.specs.wy_search_spec.Splitting.{next_atom}
use Rattle.wy_prove_leaves.specs.wy_search_spec.Expansion as search
use Rattle.wy_prove_rounds.specs.wy_search.Spot.{Spot}
use Rattle.wy_prove_rounds.specs.wy_search.StatedSeen.{seen_spot, IsSpot}
use Rattle.wy_prove_rounds.specs.wy_prove_drafts.Draft.{seen_draft}
use Rattle.wy_prove.specs.Turns.{IsOpenNode, IsRound}
use Rattle.wy_prove.specs.Walks.{seen_waiting}
use Rattle.wy_prove.proofs.WalkLemmas.{round_never, round_stands, stands_beside, stands_so, waiting_seen, waiting_stay}
use Rattle.wy_prove.proofs.walking.on_round.Goals as goal

pub returns-in-Some-clause-value : goal.returns-in-Some-clause-value
returns-in-Some-clause-value c = λ k budget v p same below h judged.
    let old = c.args.terms.now in
    let at = tree_at old in
    let new = c.round.new.terms in
    let types = (condition_of old c.args.cond.now).types in
    let q = seen_spot at c.args.spot in
    let d = seen_draft at c.args.draft in
    let e = seen_draft (tree_at new) c.round.new.draft in
    let ws = map (seen_waiting at) c.args.waiting.items in
    let stands = stands_so k budget v c.args.leaves p q d d ws ws judged.2 refl refl h in
    let free = subst (λ (x : search.Spot). IsOpenNode x.node) (sym judged.2) judged.0 in
    let none = subst (λ (x : search.Spot). next_atom x.node ≡ None) (sym judged.2) judged.1 in
    let r = subst (IsRound types q (ending q.node) (tree_at new) d e) c.in-Some.is (c.in_ok-more.ensures.value (ending q.node) (stands_beside k budget v c.args.leaves q d ws types same stands)) in
    let more = seen_spot (tree_at new) c.in-Some.more in
    stands_so k budget v c.args.leaves more more e e ws (map (seen_waiting (tree_at new)) c.args.waiting.items) refl refl (waiting_seen old new c.args.waiting.items c.in_ok-more.ensures.stays c.requires.waiting)
    (round_stands k budget v c.args.leaves types q more d e ws same below free none r.0 r.1 r.2 stands)

pub returns-in-Some-clause-turned : goal.returns-in-Some-clause-turned
returns-in-Some-clause-turned c = λ budget le. (
  record {
    draft = c.in_ok-more.ensures.draft;
    spot = subst (λ (o : Option Spot). IfSome o (IsSpot c.round.new.terms)) c.in-Some.is c.in_ok-more.ensures.spot;
    waiting = waiting_stay c.args.terms.now c.round.new.terms c.args.waiting.items c.in_ok-more.ensures.stays c.requires.waiting;
  },
  le,
)

pub returns-in-None-clause-value : goal.returns-in-None-clause-value
returns-in-None-clause-value c = λ k budget v p same below h judged.
    let old = c.args.terms.now in
    let at = tree_at old in
    let new = c.round.new.terms in
    let types = (condition_of old c.args.cond.now).types in
    let q = seen_spot at c.args.spot in
    let d = seen_draft at c.args.draft in
    let e = seen_draft (tree_at new) c.round.new.draft in
    let ws = map (seen_waiting at) c.args.waiting.items in
    let stands = stands_so k budget v c.args.leaves p q d d ws ws judged.2 refl refl h in
    let free = subst (λ (x : search.Spot). IsOpenNode x.node) (sym judged.2) judged.0 in
    let none = subst (λ (x : search.Spot). next_atom x.node ≡ None) (sym judged.2) judged.1 in
    let r = subst (IsRound types q (ending q.node) (tree_at new) d e) c.in-None.is (c.in_ok-more.ensures.value (ending q.node) (stands_beside k budget v c.args.leaves q d ws types same stands)) in
    round_never k budget v c.args.leaves types q d ws same below free none r stands
