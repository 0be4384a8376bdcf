use Rattle.std.proofs.Common.{◌≡◌, ◌≢◌, ◌-◌, ◌∷◌, refl, subst, arith}
use Rattle.slab.specs.Slab.{with_value}
use Rattle.wy_heap.specs.declared.part.Part.{Part}
use Rattle.wy_heap.specs.declared.node.Node.{Node}
use Rattle.wy_heap.specs.Freeing.{IsFreeing}
use Rattle.wy_heap.proofs.ChangeLemmas.{map_of-recounted}
use Rattle.wy_heap.proofs.FreeLemmas.{lowers, lowered_dies, lowered_stays}
use Rattle.wy_heap.proofs.heap.Heap.let_go.Goals as goal

pub returns-then-node-eq0-clause-nodes : goal.returns-then-node-eq0-clause-nodes
returns-then-node-eq0-clause-nodes c = map_of-recounted c.args.self.now c.in-Key.key c.index_mut-node.result.now _ c.index_mut-node.ensures.value refl

pub returns-else-node-eq0-clause-nodes : goal.returns-else-node-eq0-clause-nodes
returns-else-node-eq0-clause-nodes c = map_of-recounted c.args.self.now c.in-Key.key c.index_mut-node.result.now _ c.index_mut-node.ensures.value refl

pub returns-then-node-eq0-clause-frees : goal.returns-then-node-eq0-clause-frees
returns-then-node-eq0-clause-frees c places frees =
    let h = c.args.self.now in
    let key = c.in-Key.key in
    let old = c.index_mut-node.result.now in
    let new : Node = record { count = old.count - 1; next = c.args.dead; shape = old.shape; parts = old.parts } in
    let none : old.count - 1 ≡ 0 = grind (arith, c.if-node-eq0.true) in (
      key ∷ frees.0,
      lowered_dies h (record h { nodes = with_value h.nodes key new }) key old new (lowers h key old new c.index_mut-node.ensures.value refl refl) c.args.dead places frees.0
          (subst (λ (p : Part). IsFreeing h c.args.dead (p ∷ places) frees.0) c.in-Key.is frees.1) none refl,
    )

pub returns-else-node-eq0-clause-frees : goal.returns-else-node-eq0-clause-frees
returns-else-node-eq0-clause-frees c places frees =
    let h = c.args.self.now in
    let key = c.in-Key.key in
    let old = c.index_mut-node.result.now in
    let new : Node = record { count = old.count - 1; next = old.next; shape = old.shape; parts = old.parts } in
    let some : old.count - 1 ≢ 0 = λ e. grind (arith, c.if-node-eq0.false, e) in (
      frees.0,
      lowered_stays h (record h { nodes = with_value h.nodes key new }) key old new (lowers h key old new c.index_mut-node.ensures.value refl refl) c.args.dead places frees.0
          (subst (λ (p : Part). IsFreeing h c.args.dead (p ∷ places) frees.0) c.in-Key.is frees.1) some,
    )
