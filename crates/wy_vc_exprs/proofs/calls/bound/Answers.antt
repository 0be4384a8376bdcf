use Rattle.std.proofs.Common.{◌≡◌, ◌+◌, ◌<◌, ◌∙◌, Option, ℕ, List, length, drop, get_or, ap, subst, sym, arith}
use Rattle.wy_core.specs.declared.declarations.Param.{Param}
use Rattle.wy_vc_exprs.specs.Slots.{AreSlots, slots_of}
use Rattle.wy_vc_exprs.proofs.OweLemmas.{number_item}
use Rattle.wy_vc_exprs.proofs.SlotLemmas.{are_put}
use Rattle.wy_vc_exprs.proofs.CallLemmas.{argument_below, bound_by, bound_turn, bound_end, ends_there}
use Rattle.wy_vc_exprs.proofs.calls.bound.Goals as goal

pub loop-place-preserved : goal.loop-place-preserved
loop-place-preserved c =
    let in_params : c.loop-place.place < length c.args.params.now = omega (arith, c.loop-place-test.true, c.pairs-place-end.ensures.first) in
    let in_args : c.loop-place.place < length c.args.args.now = omega (arith, c.loop-place-test.true, c.pairs-place-end.ensures.second) in
    let p : Param = get_or c.args.params.now c.loop-place.place c.index-params-place.result in
    let is_p : p ≡ get_or c.args.params.now c.loop-place.place p = ap (λ (q : Param). get_or c.args.params.now c.loop-place.place q) c.index-params-place.is in
    let k : ℕ = get_or c.args.args.now c.loop-place.place 0 in
    let is_k = number_item c.args.args.now c.loop-place.place in_args in (
      λ nodes.
          ap (λ (vs : List (Option ℕ)). bound_by nodes (drop (c.loop-place.place + 1) c.args.params.now) (drop (c.loop-place.place + 1) c.args.args.now) (slots_of nodes vs)) c.in_ok-put.ensures.value
          ∙ bound_turn nodes c.args.params.now c.args.args.now c.loop-place.place p k c.loop-place.vars.items _ in_params in_args is_p is_k (c.loop-place.invariant.0 nodes),
      λ nodes below. subst (λ (vs : List (Option ℕ)). AreSlots nodes vs) (sym c.in_ok-put.ensures.value)
          (are_put nodes c.loop-place.vars.items p.variable k (c.loop-place.invariant.1 nodes below) (argument_below (length nodes) c.args.args.now c.loop-place.place k in_args is_k below)),
    )

pub returns-clause-value : goal.returns-clause-value
returns-clause-value c = λ nodes.
    bound_end nodes c.args.params.now c.args.args.now c.loop-place.place (slots_of nodes c.loop-place.vars.items) _
    (ends_there c.loop-place.place c.pairs-place-end.result (length c.args.params.now) (length c.args.args.now) (omega (arith, c.loop-place-test.false, c.loop-place.auto.place-end)) c.pairs-place-end.ensures.ends) (c.loop-place.invariant.0 nodes)
