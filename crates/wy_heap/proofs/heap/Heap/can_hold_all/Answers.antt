use Rattle.std.proofs.Common.{◌<◌, inl, inr, length, get_or, take, ap, arith, rules, refl}
use Rattle.std.proofs.lemmas.Bool.{cases_lt}
use Rattle.wy_heap.specs.declared.part.Part.TheVariants.{Null}
use Rattle.wy_heap.specs.Nodes.{holds, held}
use Rattle.wy_heap.proofs.CountLemmas.{holds_one, holds_is, holds-get_or, held-take_more}
use Rattle.wy_heap.proofs.ChangeLemmas.{there_from}
use Rattle.wy_heap.proofs.heap.Heap.can_hold_all.Goals as goal

pub can_hold-requires : goal.can_hold-requires
can_hold-requires c =
    let i = c.loop-part.part-index in
    let parts = c.args.parts.now in
    there_from c.args.self.now (get_or parts i Null) (λ k is.
    c.requires k (omega (arith, holds-get_or k parts i, ap (holds k) is, holds_one k)))

pub loop-part-preserved : goal.loop-part-preserved
loop-part-preserved c k some =
    let i = c.loop-part.part-index in
    let parts = c.args.parts.now in
    let below : i < length parts = search rules in
    let more = held-take_more k parts i below in
    elim (cases_lt 0 (held k (take i parts))) [
      | inl was ↦ c.loop-part.invariant k (omega arith)
      | inr none ↦ c.if-not-can_hold.ensures refl k (holds_is k (get_or parts i Null) (omega arith))
    ]
