use Rattle.std.proofs.Common.{◌<◌, inl, inr, length, get_or, take, ap, arith, rules, refl}
use Rattle.std.proofs.lemmas.Bool.{cases_lt}
use Rattle.wy_heap.specs.declared.part.Part.TheVariants.{Null}
use Rattle.wy_heap.specs.Nodes.{holds, held}
use Rattle.wy_heap.proofs.CountLemmas.{holds_one, holds_is, holds-get_or, held-take_more}
use Rattle.wy_heap.proofs.ChangeLemmas.{there_from}
use Rattle.wy_heap.proofs.heap.Heap.are_within.Goals as goal

pub is_over-requires : goal.is_over-requires
is_over-requires c =
    let i = c.loop-part.part-index in
    let parts = c.args.parts.now in
    there_from c.args.self.now (get_or parts i Null) (λ k is.
    c.requires k (omega (arith, holds-get_or k parts i, ap (holds k) is, holds_one k)))

pub loop-part-preserved : goal.loop-part-preserved
loop-part-preserved c k some =
    let i = c.loop-part.part-index in
    let parts = c.args.parts.now in
    let below : i < length parts = search rules in
    let more = held-take_more k parts i below in
    elim (cases_lt 0 (held k (take i parts))) [
      | inl was ↦ c.loop-part.invariant k (omega arith)
      | inr none ↦ c.if-is_over.ensures.no refl k (holds_is k (get_or parts i Null) (omega arith))
    ]

pub returns-then-is_over-clause-no : goal.returns-then-is_over-clause-no
returns-then-is_over-clause-no c none =
    let i = c.loop-part.part-index in
    let parts = c.args.parts.now in
    let found = c.if-is_over.ensures.yes refl in
    (found.0, omega (arith, holds-get_or found.0 parts i, ap (holds found.0) found.1, holds_one found.0), found.2)
