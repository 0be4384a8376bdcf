use Rattle.std.proofs.Common.{◌≡◌, ◌+◌, ℕ, List, get_or, refl, suc, subst, sym, arith}
use Rattle.wy_graph.proofs.reach_lemmas.SizeLemmas.{SizesSoFar, size_put, sizes_end}
use Rattle.wy_graph.proofs.reach.sizes.sizes_of.Goals as goal

pub loop-number-preserved : goal.loop-number-preserved
loop-number-preserved c =
    let step = size_put c.args.entries.now c.args.loops.now c.args.order.now c.requires.loops c.requires.order c.loop-number.number-index (get_or c.args.order.now c.loop-number.number-index 0) c.loop-number.sizes c.loop-number-test.true refl c.loop-number.invariant in
    let next : suc c.loop-number.number-index ≡ c.loop-number.number-index + 1 = omega arith in
    subst (λ (k : ℕ). SizesSoFar c.args.entries.now c.args.order.now k c.put_size.new.sizes) next
    (subst (λ (l : List ℕ). SizesSoFar c.args.entries.now c.args.order.now (suc c.loop-number.number-index) l) (sym c.put_size.ensures.value) step)

pub returns : goal.returns
returns c = record { value = sizes_end c.args.entries.now c.args.order.now c.requires.order c.loop-number.number-index c.loop-number.sizes (omega (arith, c.loop-number-test.false, c.loop-number.auto.number-index-end)) c.loop-number.invariant }
