use Rattle.std.proofs.Common.{◌≤◌, ◌<◌, ◌+◌, ◌++◌, List, length, drop, subst, arith, rules}
use Rattle.std.proofs.lemmas.List.{drop_more, drop_all}
use Rattle.wy_heap.specs.declared.part.Part.{Part}
use Rattle.wy_heap.specs.declared.part.Part.TheVariants.{Null}
use Rattle.wy_heap.specs.Freeing.{Frees}
use Rattle.wy_heap.proofs.heap.Heap.let_go_all.Goals as goal

pub let_go-dead-requires : goal.let_go-dead-requires
let_go-dead-requires c =
    let i = c.loop-part.part-index in
    let parts = c.args.parts.now in
    let below : i < length parts = search rules in
    let free = c.loop-part.invariant.frees c.requires.0 c.requires.1 in (
      drop (i + 1) parts ++ c.requires.0,
      subst (λ (ps : List Part). Frees c.loop-part.self c.loop-part.dead (ps ++ c.requires.0)) (drop_more parts i Null below) free,
    )

pub loop-part-preserved : goal.loop-part-preserved
loop-part-preserved c =
    let i = c.loop-part.part-index in
    let parts = c.args.parts.now in
    let below : i < length parts = search rules in
    record {
      rest = record { cap = cc; shapes = cc; copies = cc };
      nodes = cc;
      lower = λ k. omega (arith, c.let_go-dead.ensures.lower k, c.loop-part.invariant.lower k);
      frees = λ places start.
          c.let_go-dead.ensures.frees (drop (i + 1) parts ++ places)
          (subst (λ (ps : List Part). Frees c.loop-part.self c.loop-part.dead (ps ++ places)) (drop_more parts i Null below) (c.loop-part.invariant.frees places start));
    }

pub returns-clause-frees : goal.returns-clause-frees
returns-clause-frees c places start =
    let i = c.loop-part.part-index in
    let parts = c.args.parts.now in
    let past : length parts ≤ i = search rules in
    subst (λ (ps : List Part). Frees c.loop-part.self c.loop-part.dead (ps ++ places)) (drop_all i parts past) (c.loop-part.invariant.frees places start)
