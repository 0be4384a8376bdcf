use Rattle.std.proofs.Common.{◌≤◌, ◌<◌, ◌+◌, ◌++◌, List, length, drop, subst, arith, rules}
use Rattle.std.proofs.lemmas.List.{drop_more, drop_all}
use Rattle.wy_heap.specs.declared.part.Part.{Part}
use Rattle.wy_heap.specs.declared.part.Part.TheVariants.{Null}
use Rattle.wy_heap.specs.Standing.{Counts}
use Rattle.wy_heap.proofs.ImportLemmas.{upholds_more}
use Rattle.wy_heap.proofs.heap.Heap.free_all.Goals as goal

pub free-requires : goal.free-requires
free-requires c =
    let i = c.loop-part.part-index in
    let parts = c.args.parts.now in
    let below : i < length parts = search rules in (
      drop (i + 1) parts ++ c.requires.0,
      subst (λ (ps : List Part). Counts c.loop-part.self (ps ++ c.requires.0)) (drop_more parts i Null below) (c.loop-part.invariant.counts c.requires.0 c.requires.1),
    )

pub loop-part-preserved : goal.loop-part-preserved
loop-part-preserved c =
    let i = c.loop-part.part-index in
    let parts = c.args.parts.now in
    let below : i < length parts = search rules in
    record {
      rest = record { cap = cc; shapes = cc; copies = cc };
      counts = λ others counts.
          (c.free.ensures.leads (drop (i + 1) parts ++ others)
          (subst (λ (ps : List Part). Counts c.loop-part.self (ps ++ others)) (drop_more parts i Null below) (c.loop-part.invariant.counts others counts))).counts;
      upheld = λ base others counts upholds more.
          c.free.ensures.upheld base (drop (i + 1) parts ++ others)
          (subst (λ (ps : List Part). Counts c.loop-part.self (ps ++ others)) (drop_more parts i Null below) (c.loop-part.invariant.counts others counts))
          (upholds_more base (drop (i + 1) parts) others upholds)
          (c.loop-part.invariant.upheld base others counts upholds more);
      lower = λ k. omega (arith, c.free.ensures.lower k, c.loop-part.invariant.lower k);
    }

pub returns-clause-counts : goal.returns-clause-counts
returns-clause-counts c others counts =
    let i = c.loop-part.part-index in
    let parts = c.args.parts.now in
    let past : length parts ≤ i = search rules in
    subst (λ (ps : List Part). Counts c.loop-part.self (ps ++ others)) (drop_all i parts past) (c.loop-part.invariant.counts others counts)
