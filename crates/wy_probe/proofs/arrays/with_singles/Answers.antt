use Rattle.std.proofs.Common.{◌∷◌, ◌++◌, [], map, refl}
use Rattle.wy_value.specs.declared.value.Value.TheVariants as value
use Rattle.wy_value.specs.Seen.{seen}
use Rattle.wy_probe.specs.Candidates.{one_item}
use Rattle.wy_probe.specs.Tables.{data_in}
use Rattle.wy_probe.proofs.ListLemmas.{ends, mapped, single_is, turn}
use Rattle.wy_probe.proofs.arrays.with_singles.Goals as goal

pub loop-value-preserved : goal.loop-value-preserved
loop-value-preserved c =
    let values = c.args.values.now in
    let x = c.value-item.result in
    let made = c.loop-value.made in
    turn (λ ys. map one_item (data_in ys)) values c.loop-value.value-index x (data_in made) (data_in c.push-in-loop-value.new.self) (data_in c.args.made ++ map one_item (data_in values)) (one_item (seen x) ∷ []) c.loop-value-test.true c.value-item.is
    (mapped seen made c.push-in-loop-value.new.self (value.Array c.push.new.self) (one_item (seen x)) c.in_ok-push-2.ensures.ok
    (single_is c.new-items.result c.push.new.self c.in_ok-copy.field-0 x c.new-items.ensures c.in_ok-push.ensures.ok c.in_ok-copy.ensures.value))
    (λ ys. refl) c.loop-value.invariant

pub returns : goal.returns
returns c =
    let values = c.args.values.now in
    record { value = ends (λ ys. map one_item (data_in ys)) values c.loop-value.value-index (data_in c.loop-value.made) (data_in c.args.made ++ map one_item (data_in values)) c.loop-value-test.false refl c.loop-value.invariant }
