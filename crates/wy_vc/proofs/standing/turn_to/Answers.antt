use Rattle.std.proofs.Common.{◌∙◌, ◌<◌, ◌≤◌, ℕ, List, length, take, sym, ap, rules}
use Rattle.std.proofs.lemmas.List.{take_all}
use Rattle.wy_vc.proofs.StandingLemmas.{below_item, stood_more}
use Rattle.wy_vc.proofs.standing.turn_to.Goals as goal

pub loop-index-init : goal.loop-index-init
loop-index-init c = (c.cut_to.ensures.stands, c.cut_to.ensures.hyps ∙ (ap (λ (l : List ℕ). take c.shared_front-front.result l) (sym c.as_slice.ensures.value) ∙ c.shared_front-front.ensures.same))

pub stand-requires : goal.stand-requires
stand-requires c =
    let lt : c.loop-index.index < length c.args.hyps.now = search rules in
    record {
      within = below_item (length c.args.terms.now) c.args.hyps.now c.loop-index.index c.requires.within lt;
      quiet = c.requires.quiet;
      stands = c.loop-index.invariant.0;
    }

pub loop-index-preserved : goal.loop-index-preserved
loop-index-preserved c =
    let lt : c.loop-index.index < length c.args.hyps.now = search rules in
    (c.in_ok-stand.ensures.stands, stood_more c.args.hyps.now c.loop-index.index c.loop-index.standing.hyps.items c.stand.new.standing.hyps.items lt c.in_ok-stand.ensures.hyps c.loop-index.invariant.1)

pub returns : goal.returns
returns c =
    let past : length c.args.hyps.now ≤ c.loop-index.index = search rules in
    record { stands = c.loop-index.invariant.0; hyps = c.loop-index.invariant.1 ∙ take_all c.loop-index.index c.args.hyps.now past }
