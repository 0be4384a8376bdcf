use Rattle.std.proofs.Common.{◌++◌, map, refl}
use Rattle.wy_value.specs.Seen.{seen}
use Rattle.wy_probe.specs.Candidates.{pairs, two_items}
use Rattle.wy_probe.specs.Tables.{data_in}
use Rattle.wy_probe.proofs.ListLemmas.{ends, turn}
use Rattle.wy_probe.proofs.arrays.with_pairs.Goals as goal

pub loop-first-preserved : goal.loop-first-preserved
loop-first-preserved c =
    let firsts = c.args.firsts.now in
    let seconds = data_in c.args.seconds.now in
    let x = c.first-item.result in
    turn (λ ys. pairs (data_in ys) seconds) firsts c.loop-first.first-index x (data_in c.loop-first.made) (data_in c.in_ok-made.made) (data_in c.args.made ++ pairs (data_in firsts) seconds) (map (two_items (seen x)) seconds) c.loop-first-test.true c.first-item.is
    c.in_ok-made.ensures.value (λ ys. refl) c.loop-first.invariant

pub returns : goal.returns
returns c =
    let firsts = c.args.firsts.now in
    let seconds = data_in c.args.seconds.now in
    record { value = ends (λ ys. pairs (data_in ys) seconds) firsts c.loop-first.first-index (data_in c.loop-first.made) (data_in c.args.made ++ pairs (data_in firsts) seconds) c.loop-first-test.false refl c.loop-first.invariant }
