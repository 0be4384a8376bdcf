use Rattle.std.proofs.Common.{◌≤◌, ◌<◌, length, get_or, take, ap, arith, rules}
use Rattle.std.proofs.lemmas.List.{length-take}
use Rattle.wy_heap.specs.declared.part.Part.TheVariants.{Null}
use Rattle.wy_heap.specs.Nodes.{holds}
use Rattle.wy_heap.proofs.CountLemmas.{holds_one, holds-get_or, held-take_more, held-le-length}
use Rattle.wy_heap.proofs.ChangeLemmas.{there_from, below_from, contains_same}
use Rattle.wy_heap.proofs.heap.Heap.hold_all.Goals as goal

pub hold-requires-clause-there : goal.hold-requires-clause-there
hold-requires-clause-there c =
    let i = c.loop-part.part-index in
    let parts = c.args.parts.now in
    there_from c.loop-part.self (get_or parts i Null) (λ k is.
    contains_same c.args.self.now c.loop-part.self k c.loop-part.invariant.nodes
    (c.requires.there k (omega (arith, holds-get_or k parts i, ap (holds k) is, holds_one k))))

pub hold-requires-clause-below : goal.hold-requires-clause-below
hold-requires-clause-below c =
    let i = c.loop-part.part-index in
    let parts = c.args.parts.now in
    let below : i < length parts = search rules in
    below_from c.loop-part.self 18446744073709551615 (get_or parts i Null) (λ k is.
    let taken : length (take i parts) ≤ i = omega (arith, length-take i parts) in
    omega (
      arith,
      taken,
      below,
      c.loop-part.invariant.counts k,
      c.requires.below k (omega (arith, holds-get_or k parts i, ap (holds k) is, holds_one k)),
      held-le-length k (take i parts),
    ))

pub loop-part-preserved : goal.loop-part-preserved
loop-part-preserved c =
    let i = c.loop-part.part-index in
    let parts = c.args.parts.now in
    let below : i < length parts = search rules in
    record {
      rest = record { cap = cc; shapes = cc; copies = cc };
      nodes = cc;
      counts = λ k. omega (arith, c.hold.ensures.counts k, c.loop-part.invariant.counts k, held-take_more k parts i below);
      room = λ n room. c.hold.ensures.room n (c.loop-part.invariant.room n room);
    }
