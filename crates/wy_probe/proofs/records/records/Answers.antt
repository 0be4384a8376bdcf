use Rattle.std.proofs.Common.{◌∙◌, ◌∷◌, ◌++◌, [], ap, map, refl}
use Rattle.wy_value.specs.Datum.{Record}
use Rattle.wy_value.specs.declared.value.Value.TheVariants as value
use Rattle.wy_value.specs.Seen.{seen, seen_fields}
use Rattle.wy_probe.specs.Tables.{data_in, rows_in}
use Rattle.wy_probe.proofs.ListLemmas.{ends, mapped, record_is, turn}
use Rattle.wy_probe.proofs.records.records.Goals as goal

pub loop-row-preserved : goal.loop-row-preserved
loop-row-preserved c =
    let held = c.as_slice-held.result.now in
    let x = c.row-item.result in
    let made = c.loop-row.made in
    turn (λ ys. map (λ fs. Record fs) (rows_in ys)) held c.loop-row.row-index x (data_in made) (data_in c.push.new.self) (map (λ fs. Record fs) (rows_in held)) (Record (seen_fields x) ∷ []) c.loop-row-test.true c.row-item.is
    (mapped seen made c.push.new.self (value.Record c.in_ok-fields.fields) (Record (seen_fields x)) c.in_ok-push.ensures.ok
    (record_is c.in_ok-fields.fields x c.new.result c.new.ensures (c.in_ok-fields.ensures.value ∙ ap (λ l. c.new.result ++ l) c.as_slice.ensures)))
    (λ ys. refl) c.loop-row.invariant

pub returns : goal.returns
returns c =
    let held = c.as_slice-held.result.now in
    record {
      value = ends (λ ys. map (λ fs. Record fs) (rows_in ys)) held c.loop-row.row-index (data_in c.loop-row.made) (map (λ fs. Record fs) (rows_in held)) c.loop-row-test.false refl c.loop-row.invariant
          ∙ ap (λ l. map (λ fs. Record fs) (rows_in l)) c.as_slice-held.ensures;
    }
