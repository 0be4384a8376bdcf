use Rattle.std.proofs.Common.{◌≡◌, ◌∙◌, ◌<◌, ℕ, All, length, Some, sym, ap, subst, arith}
use Rattle.std.proofs.lemmas.List.{length-set}
use Rattle.std.proofs.lemmas.List.Elements.{All-head, All-tail}
use Rattle.wy_batch.proofs.OrderLemmas.{Numbered, Slots, all_below, is_full, left_next, none_placed, placed_next, rest_below, IsBelow}
use Rattle.wy_claim.specs.Claimed.{times}
use Rattle.wy_batch.specs.Judged.{AreVerdictsAt, IsVerdictAt}
use Rattle.wy_batch.specs.Working.{numbers_of}
use Rattle.wy_batch.specs.declared.verdict.Verdict.{Verdict}
use Rattle.wy_batch.proofs.ordering.placed.Goals as goal

pub loop-place-init : goal.loop-place-init
loop-place-init c =
    let all = c.args.verdicts.items in
    let is : c.into_iter-place-iterator.result.rest.items ≡ all = c.into_iter-place-iterator.ensures.into_iter_gives.0 in
    record {
      count = c.in_ok-slots.ensures.count;
      below = subst (All (IsBelow c.args.count)) (sym is) (all_below c.args.count all c.requires.once);
      left = λ q at. ap (λ (vs : Numbered). times q (numbers_of vs)) is;
      rest = λ certs budget cs h. subst (AreVerdictsAt certs budget cs) (sym is) h;
      placed = λ certs budget cs h. none_placed certs budget cs c.in_ok-slots.slots.items c.in_ok-slots.ensures.none;
    }

pub put-requires : goal.put-requires
put-requires c =
    let below = rest_below c.args.count c.loop-place.place-iterator.rest.items _ c.in-Some.place c.in-Some.verdict c.in-Some.ensures.steps.0 c.loop-place.invariant.below in
    omega (arith, below.0, c.loop-place.invariant.count)

pub loop-place-preserved : goal.loop-place-preserved
loop-place-preserved c =
    let slots = c.loop-place.slots.items in
    let new = c.put.new.slots.items in
    let p = c.in-Some.place in
    let v = c.in-Some.verdict in
    let steps = c.in-Some.ensures.steps.0 in
    let invariant = c.loop-place.invariant in
    let below = rest_below c.args.count c.loop-place.place-iterator.rest.items _ p v steps invariant.below in
    let lt : p < length slots = omega (arith, below.0, invariant.count) in
    record {
      count = ap (λ (xs : Slots). length xs) c.put.ensures ∙ length-set slots p (Some v) ∙ invariant.count;
      below = below.1;
      left = left_next c.args.verdicts.items slots new c.loop-place.place-iterator.rest.items _ p v steps c.put.ensures lt invariant.left;
      rest = λ certs budget cs all. All-tail (λ (w : ℕ × Verdict). IsVerdictAt certs budget cs w.0 w.1) (p, v) _ (subst (AreVerdictsAt certs budget cs) steps (invariant.rest certs budget cs all));
      placed = λ certs budget cs all. placed_next certs budget cs slots new p v c.put.ensures lt
          (All-head (λ (w : ℕ × Verdict). IsVerdictAt certs budget cs w.0 w.1) (p, v) _ (subst (AreVerdictsAt certs budget cs) steps (invariant.rest certs budget cs all))) (invariant.placed certs budget cs all);
    }

pub returns-clause-count : goal.returns-clause-count
returns-clause-count c = c.loop-place.invariant.count

pub returns-clause-full : goal.returns-clause-full
returns-clause-full c =
    is_full c.args.verdicts.items c.loop-place.place-iterator.rest.items c.loop-place.slots.items c.args.count c.requires.once c.loop-place.invariant.count
    (omega (arith, c.in-None.ensures.steps.0, c.loop-place.place-iterator.rest.ok.0)) c.loop-place.invariant.left

pub returns-clause-placed : goal.returns-clause-placed
returns-clause-placed c = c.loop-place.invariant.placed
