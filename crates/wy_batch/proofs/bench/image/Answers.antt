use Rattle.std.proofs.Common.{sym}
use Rattle.wy_batch.proofs.BenchLemmas.{stays_same}
use Rattle.wy_batch.proofs.bench.image.Goals as goal

pub returns-in-Some : goal.returns-in-Some
returns-in-Some c =
    let there = c.requires.bench.copied.copied c.args.t c.in-Some.image (sym c.in-Some.ensures) in
    record {
      within = there.1.within;
      tree = there.1.is;
      bench = c.requires.bench;
      stays = stays_same c.args.bench.now.terms;
    }
