use Rattle.std.proofs.Common.{◌++◌, List, None, refl, sym, subst, ap, arith}
use Rattle.wy_heap.specs.declared.part.Part.{Part}
use Rattle.wy_heap.specs.declared.heap.Heap.{Heap}
use Rattle.wy_heap.specs.Nodes.{Map, map_of, size}
use Rattle.wy_heap.specs.Freeing.{Frees}
use Rattle.wy_heap.specs.Changing.{Changes, Lasts, More}
use Rattle.wy_heap.proofs.LeadLemmas.{released}
use Rattle.wy_heap.proofs.FreeLemmas.{first_there, unlinks, lasts_less, size_less, upheld_less, removed_lower}
use Rattle.wy_heap.proofs.heap.Heap.free_hold.Goals as goal

pub remove-next-requires : goal.remove-next-requires
remove-next-requires c =
    first_there c.loop-dead.self c.loop-dead.dead c.requires.0 c.in-Some.key (c.loop-dead.invariant.frees c.requires.0 c.requires.1) c.in-Some.is

pub let_go_all-dead-requires : goal.let_go_all-dead-requires
let_go_all-dead-requires c =
    let h = c.loop-dead.self in
    let n : Heap = record h { nodes = c.remove-next.new.self } in
    let changes : Changes h n c.in-Some.key None = record { shapes = refl; updates = c.remove-next.ensures.updates } in
    let next = unlinks h n c.loop-dead.dead c.in-Some.key c.remove-next.result c.remove-next.ensures.value changes c.in-Some.is c.requires.0 (c.loop-dead.invariant.frees c.requires.0 c.requires.1) in
    (c.requires.0, subst (λ (ps : List Part). Frees n c.remove-next.result.next (ps ++ c.requires.0)) (sym c.deref.ensures.value) next)

pub loop-dead-smaller : goal.loop-dead-smaller
loop-dead-smaller c =
    let less = size_less c.loop-dead.self c.remove-next.new.self.slots c.in-Some.key c.remove-next.result c.remove-next.ensures.value c.remove-next.ensures.slots in
    omega (arith, less, ap size c.let_go_all-dead.ensures.nodes)

pub loop-dead-preserved : goal.loop-dead-preserved
loop-dead-preserved c =
    let h = c.loop-dead.self in
    let n : Heap = record h { nodes = c.remove-next.new.self } in
    let changes : Changes h n c.in-Some.key None = record { shapes = refl; updates = c.remove-next.ensures.updates } in
    record {
      rest = record { cap = cc; shapes = cc; copies = cc };
      frees = λ places counts.
          let next = unlinks h n c.loop-dead.dead c.in-Some.key c.remove-next.result c.remove-next.ensures.value changes c.in-Some.is places (c.loop-dead.invariant.frees places counts) in
          c.let_go_all-dead.ensures.frees places
          (subst (λ (ps : List Part). Frees n c.remove-next.result.next (ps ++ places)) (sym c.deref.ensures.value) next);
      lasts =
          subst (λ (m : Map). Lasts (map_of c.args.self.now) m) (sym c.let_go_all-dead.ensures.nodes)
          (lasts_less (map_of c.args.self.now) h n c.in-Some.key changes c.loop-dead.invariant.lasts);
      upheld = λ base others counts upholds more.
          subst (More base) (sym c.let_go_all-dead.ensures.nodes)
          (upheld_less h n c.loop-dead.dead c.in-Some.key others c.in-Some.is (c.loop-dead.invariant.frees others counts) changes base upholds (c.loop-dead.invariant.upheld base others counts upholds more));
      lower = λ k. omega (arith, c.let_go_all-dead.ensures.lower k, removed_lower h n c.in-Some.key changes k, c.loop-dead.invariant.lower k);
    }

pub returns-clause-leads : goal.returns-clause-leads
returns-clause-leads c others counts =
    released c.args.self.now c.loop-dead.self c.args.part c.loop-dead.dead others counts (c.loop-dead.invariant.frees others counts) c.in_default.is c.loop-dead.invariant.lasts
