use Rattle.std.proofs.Common.{◌∙◌, ap, map, refl, take}
use Rattle.wy_value.specs.Datum.{field}
use Rattle.wy_value.specs.Seen.{seen}
use Rattle.wy_probe.specs.Candidates.{with_field}
use Rattle.wy_probe.specs.Tables.{data_in, rows_in}
use Rattle.wy_probe.proofs.ListLemmas.{ends, turn}
use Rattle.wy_probe.proofs.records.with_field.Goals as goal

pub loop-value-preserved : goal.loop-value-preserved
loop-value-preserved c =
    let name = c.args.name.now in
    let values = c.args.values.now in
    let rests = rows_in c.args.rests.now in
    let x = c.value-item.result in
    turn (λ ys. with_field name (data_in ys) rests) values c.loop-value.value-index x (rows_in c.loop-value.rows) (rows_in c.in_ok-rows.rows) (with_field name (data_in values) rests) (map (field name (seen x)) rests) c.loop-value-test.true c.value-item.is
    c.in_ok-rows.ensures.value (λ ys. refl) c.loop-value.invariant

pub returns : goal.returns
returns c =
    let name = c.args.name.now in
    let values = c.args.values.now in
    let rests = rows_in c.args.rests.now in
    record {
      value = c.cut_rows.ensures.value ∙ ap (take 64) (ends (λ ys. with_field name (data_in ys) rests) values c.loop-value.value-index (rows_in c.loop-value.rows) (with_field name (data_in values) rests) c.loop-value-test.false refl c.loop-value.invariant);
    }
