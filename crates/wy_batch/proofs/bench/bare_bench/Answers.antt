use Rattle.std.proofs.Common.{nat_eq, refl, arith}
use Rattle.std.specs.HashMap.{get}
use Rattle.wy_batch.proofs.BenchLemmas.{none_copied}
use Rattle.wy_batch.proofs.bench.bare_bench.Goals as goal

pub returns : goal.returns
returns c = λ from. record {
  copied = none_copied from c.new-terms.result (get nat_eq c.new-images.result) (λ q. rw c.new-images.ensures.empty refl);
  carried = c.nothing_carried-carried.ensures c.new-terms.result (omega arith);
}
