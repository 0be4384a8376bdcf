use Rattle.std.proofs.Common.{refl}
use Rattle.wy_batch.proofs.BenchLemmas.{floor_raised}
use Rattle.wy_batch.proofs.bench.raise_floor.Goals as goal

pub returns : goal.returns
returns c = record {
  bench = λ from is. record {
    copied = is.copied;
    carried = record { forms = floor_raised c.args.bench.now.terms c.args.bench.now.carried.forms c.len-bench.result c.len-bench.ensures.value is.carried.forms; front = is.carried.front };
  };
  terms = refl;
}
