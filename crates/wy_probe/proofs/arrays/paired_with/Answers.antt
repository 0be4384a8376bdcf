use Rattle.std.proofs.Common.{◌∷◌, ◌++◌, [], map, refl}
use Rattle.wy_value.specs.declared.value.Value.TheVariants as value
use Rattle.wy_value.specs.Seen.{seen}
use Rattle.wy_probe.specs.Candidates.{two_items}
use Rattle.wy_probe.specs.Tables.{data_in}
use Rattle.wy_probe.proofs.ListLemmas.{ends, mapped, pair_is, turn}
use Rattle.wy_probe.proofs.arrays.paired_with.Goals as goal

pub loop-second-preserved : goal.loop-second-preserved
loop-second-preserved c =
    let first = c.args.first.now in
    let seconds = c.args.seconds.now in
    let x = c.second-item.result in
    let made = c.loop-second.made in
    turn (λ ys. map (two_items (seen first)) (data_in ys)) seconds c.loop-second.second-index x (data_in made) (data_in c.push-in-loop-second-2.new.self) (data_in c.args.made ++ map (two_items (seen first)) (data_in seconds)) (two_items (seen first) (seen x) ∷ []) c.loop-second-test.true c.second-item.is
    (mapped seen made c.push-in-loop-second-2.new.self (value.Array c.push-in-loop-second.new.self) (two_items (seen first) (seen x)) c.in_ok-push-3.ensures.ok
    (pair_is c.new-items.result c.push.new.self c.push-in-loop-second.new.self c.in_ok-copy.field-0 c.in_ok-copy-2.field-0 first x c.new-items.ensures c.in_ok-push.ensures.ok c.in_ok-push-2.ensures.ok c.in_ok-copy.ensures.value c.in_ok-copy-2.ensures.value))
    (λ ys. refl) c.loop-second.invariant

pub returns : goal.returns
returns c =
    let first = c.args.first.now in
    let seconds = c.args.seconds.now in
    record { value = ends (λ ys. map (two_items (seen first)) (data_in ys)) seconds c.loop-second.second-index (data_in c.loop-second.made) (data_in c.args.made ++ map (two_items (seen first)) (data_in seconds)) c.loop-second-test.false refl c.loop-second.invariant }
