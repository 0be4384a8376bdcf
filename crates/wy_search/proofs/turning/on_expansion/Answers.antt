use Rattle.std.proofs.Common.{◌≡◌, ◌∙◌, ◌<◌, ◌≤◌, true, false, refl, sym, ap, arith, rules}
use Rattle.wy_term.specs.Nodes.{tree_at}
use Rattle.wy_term.specs.Condition.{condition_of}
use Rattle.wy_search_bounds.specs.Seen.{seen_ending}
use Rattle.wy_check_nodes.proofs.SumsBranchLemmas.{node_stays}
use Rattle.wy_search_facts.specs.wy_search_spec.Expansion as expansion
use Rattle.wy_search_facts.specs.wy_search_spec.Tree as tree
use Rattle.wy_search_facts.specs.Seen.{seen_spot}
use Rattle.wy_search.proofs.SpotLemmas.{spot_stays}
use Rattle.wy_search.proofs.TurnLemmas.{no_round, round_adds, round_adds_nothing}
use Rattle.wy_search.proofs.turning.on_expansion.Goals as goal

pub returns-then-spot-ge2-clause-value : goal.returns-then-spot-ge2-clause-value
returns-then-spot-ge2-clause-value c =
    let at = tree_at c.args.terms.now in
    let le : 2 ≤ c.args.spot.rounds = omega arith in
    (no_round (condition_of c.args.terms.now c.args.cond.now).types (seen_spot at c.args.spot) (seen_ending c.args.ending) le ∙ ap tree.stays_open (sym c.why_open-why.ensures), refl)

pub returns-then-is_more-clause-value : goal.returns-then-is_more-clause-value
returns-then-is_more-clause-value c =
    let at = tree_at c.args.terms.now in
    let now = tree_at c.expanded.new.terms in
    let lt : c.args.spot.rounds < 2 = omega arith in
    let up : c.is_more.result ≡ true = search rules in
    let q = seen_spot now c.in_ok-more.more in
    let more : tree.is_more (seen_spot at c.args.spot).node q.node ≡ true = ap (λ (x : expansion.Spot). tree.is_more x.node q.node) (sym (c.in_ok-before.ensures.seen at)) ∙ (sym (c.is_more.ensures now at) ∙ up) in
    round_adds (condition_of c.args.terms.now c.args.cond.now).types (seen_spot at c.args.spot) q (seen_ending c.args.ending) lt c.in_ok-more.ensures.value more

pub returns-else-is_more-clause-value : goal.returns-else-is_more-clause-value
returns-else-is_more-clause-value c =
    let old = c.args.terms.now in
    let new = c.expanded.new.terms in
    let at = tree_at old in
    let lt : c.args.spot.rounds < 2 = omega arith in
    let un : c.is_more.result ≡ false = search rules in
    let q = seen_spot (tree_at new) c.in_ok-more.more in
    let same = c.in_ok-before.ensures.seen at in
    let more : tree.is_more (seen_spot at c.args.spot).node q.node ≡ false = ap (λ (x : expansion.Spot). tree.is_more x.node q.node) (sym same) ∙ (sym (c.is_more.ensures (tree_at new) at) ∙ un) in
    let is = c.in_ok-before.ensures.spot old c.requires.spot in (
      round_adds_nothing (condition_of old c.args.cond.now).types (seen_spot at c.args.spot) q (seen_ending c.args.ending) lt c.in_ok-more.ensures.value more ∙ ap tree.stays_open (sym c.why_open-why.ensures),
      node_stays old new c.in_ok-before.before.branch c.in_ok-more.ensures.stays is.branch ∙ ap (λ (x : expansion.Spot). x.node) same,
    )

pub returns-else-is_more-clause-next : goal.returns-else-is_more-clause-next
returns-else-is_more-clause-next c = spot_stays c.args.terms.now c.expanded.new.terms c.in_ok-before.before c.in_ok-more.ensures.stays (c.in_ok-before.ensures.spot c.args.terms.now c.requires.spot)
