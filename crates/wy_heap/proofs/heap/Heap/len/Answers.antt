use Rattle.std.proofs.Common.{arith, sym}
use Rattle.wy_heap.proofs.BuildLemmas.{len_is}
use Rattle.wy_heap.proofs.heap.Heap.len.Goals as goal

pub returns : goal.returns
returns c = record {
  value = λ items means.
      omega (arith, c.len.ensures, c.index.result.now.parts.ok, len_is c.args.self.now c.args.p.now c.in-Key.key c.index.result.now items (sym c.in-Key.ensures) c.index.ensures means);
}
