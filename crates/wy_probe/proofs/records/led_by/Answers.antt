use Rattle.std.proofs.Common.{◌∙◌, ◌∷◌, ◌++◌, [], ap, map, refl}
use Rattle.wy_value.specs.Datum.{field}
use Rattle.wy_value.specs.Seen.{seen, seen_fields}
use Rattle.wy_probe.specs.Tables.{rows_in}
use Rattle.wy_probe.proofs.ListLemmas.{ends, mapped, row_is, turn}
use Rattle.wy_probe.proofs.records.led_by.Goals as goal

pub loop-rest-preserved : goal.loop-rest-preserved
loop-rest-preserved c =
    let name = c.args.name.now in
    let v = c.args.value.now in
    let rests = c.args.rests.now in
    let x = c.rest-item.result in
    let rows = c.loop-rest.rows in
    turn (λ ys. map (field name (seen v)) (rows_in ys)) rests c.loop-rest.rest-index x (rows_in rows) (rows_in c.push-in-loop-rest.new.self) (rows_in c.args.rows ++ map (field name (seen v)) (rows_in rests)) (field name (seen v) (seen_fields x) ∷ []) c.loop-rest-test.true c.rest-item.is
    (mapped seen_fields rows c.push-in-loop-rest.new.self c.in_ok-row.row (field name (seen v) (seen_fields x)) c.in_ok-push-2.ensures.ok
    (row_is c.new-row.result c.push.new.self c.in_ok-row.row x name c.in_ok-copy.field-0 v c.in_ok-copy-2.field-0 c.new-row.ensures c.in_ok-push.ensures.ok c.in_ok-copy.ensures.value c.in_ok-copy-2.ensures.value
    (c.in_ok-row.ensures.value ∙ ap (λ l. c.push.new.self ++ l) c.as_slice.ensures)))
    (λ ys. refl) c.loop-rest.invariant

pub returns : goal.returns
returns c =
    let name = c.args.name.now in
    let v = c.args.value.now in
    let rests = c.args.rests.now in
    record { value = ends (λ ys. map (field name (seen v)) (rows_in ys)) rests c.loop-rest.rest-index (rows_in c.loop-rest.rows) (rows_in c.args.rows ++ map (field name (seen v)) (rows_in rests)) c.loop-rest-test.false refl c.loop-rest.invariant }
