use Rattle.std.proofs.Common.{◌≡◌, ◌∙◌, ◌<◌, ◌≤◌, true, false, sym, subst, arith, rules}
use Rattle.wy_term.specs.Nodes.{tree_at}
use Rattle.wy_term.specs.Condition.{condition_of}
use Rattle.wy_prove_leaves.specs.wy_search_spec.Expansion.{Spot}
use Rattle.wy_prove_rounds.specs.wy_search.StatedSeen.{seen_spot}
use Rattle.wy_prove_rounds.proofs.wy_search_proofs.TurnLemmas.{no_round, round_adds, round_adds_nothing}
use Rattle.wy_prove_rounds.specs.wy_prove_drafts.Draft.{seen_draft}
use Rattle.wy_prove_rounds.specs.Rounds.{IsBeside}
use Rattle.wy_prove.proofs.TurningLemmas.{sized}
use Rattle.wy_prove.proofs.rounds.round.Goals as goal

pub returns-then-spot-ge2-clause-value : goal.returns-then-spot-ge2-clause-value
returns-then-spot-ge2-clause-value c = λ e beside.
    let le : 2 ≤ c.args.spot.rounds = omega arith in
    no_round (condition_of c.args.terms.now c.args.cond.now).types (seen_spot (tree_at c.args.terms.now) c.args.spot) e le

pub returns-then-is_more-clause-value : goal.returns-then-is_more-clause-value
returns-then-is_more-clause-value c = λ e beside.
    let old = c.args.terms.now in
    let new = c.write_round.new.terms in
    let types = (condition_of old c.args.cond.now).types in
    let lt : c.args.spot.rounds < 2 = omega arith in
    let up : c.is_more.result ≡ true = search rules in
    let more = sized (tree_at new) (tree_at old) c.args.spot.branch c.in_ok-more.more.branch _ _ _ _ c.is_more.result c.size_of-before.ensures.literals c.size_of-before.ensures.pending c.size_of-after.ensures.literals c.size_of-after.ensures.pending c.is_more.ensures in
    let h = c.in_ok-more.ensures.value beside in (
      round_adds types (seen_spot (tree_at old) c.args.spot) (seen_spot (tree_at new) c.in_ok-more.more) e lt c.in_ok-more.ensures.seen (more ∙ up),
      h.goes,
      subst (λ (q : Spot). IsBeside types q (seen_draft (tree_at new) c.write_round.new.draft)) (sym c.in_ok-more.ensures.seen) h.beside,
    )

pub returns-else-is_more-clause-value : goal.returns-else-is_more-clause-value
returns-else-is_more-clause-value c = λ e beside.
    let old = c.args.terms.now in
    let new = c.write_round.new.terms in
    let types = (condition_of old c.args.cond.now).types in
    let lt : c.args.spot.rounds < 2 = omega arith in
    let un : c.is_more.result ≡ false = search rules in
    let more = sized (tree_at new) (tree_at old) c.args.spot.branch c.in_ok-more.more.branch _ _ _ _ c.is_more.result c.size_of-before.ensures.literals c.size_of-before.ensures.pending c.size_of-after.ensures.literals c.size_of-after.ensures.pending c.is_more.ensures in
    round_adds_nothing types (seen_spot (tree_at old) c.args.spot) (seen_spot (tree_at new) c.in_ok-more.more) e lt c.in_ok-more.ensures.seen (more ∙ un)
