use Rattle.std.proofs.Common.{◌≡◌, ◌-◌, ◌∙◌, ap, drop, length, map, sym, take, arith}
use Rattle.std.proofs.lemmas.List.{nil_from_length}
use Rattle.wy_lemmas.proofs.Options.{if_ok}
use Rattle.wy_value.specs.Datum.{Record}
use Rattle.wy_core.specs.CoreSeen.{seen_ty}
use Rattle.wy_types.specs.Names.{types_of}
use Rattle.wy_types_member.proofs.RankLemmas.{fallen}
use Rattle.wy_types_member.proofs.SizeLemmas.{seen_record_ty}
use Rattle.wy_probe.specs.Candidates.{most, no_record}
use Rattle.wy_probe.specs.Candidates as spec
use Rattle.wy_probe.specs.Tables.{array_by, by_tables, data_in, record_by, row_choices, rows_in, table_of, tables_of}
use Rattle.wy_probe.proofs.CandidateLemmas.{bare_record, came, field_falls, lower_split, tys_of}
use Rattle.wy_probe.proofs.TableLemmas.{cut_records}
use Rattle.wy_probe.proofs.candidates.+by_type.Goals as goal

pub arrays_of-returns : goal.arrays_of-returns
arrays_of-returns t c =
    let names = types_of c.args.names.now in
    let lower = c.args.lower.now in
    let rest = take (length lower - 1) (drop 1 lower) in
    let of = seen_ty c.args.item.now in
    record {
      value = came c.arrays.result (spec.arrays (data_in c.as_slice-2.result.now)) (array_by names (tables_of lower) of)
          (ap (λ l. spec.arrays (data_in l)) c.as_slice-2.ensures
          ∙ (ap spec.arrays c.in_ok-values.ensures.value
          ∙ (ap (λ l. spec.arrays (by_tables names (table_of l) (tables_of rest) of)) c.as_slice.ensures
          ∙ sym (ap (λ l. array_by names l of) (lower_split lower c.table-item.result c.in-len1-up.len_at_least c.table-item.is))))) c.arrays.ensures.value;
    }

pub records_of-returns-in_default : goal.records_of-returns-in_default
records_of-returns-in_default t c =
    let names = types_of c.args.names.now in
    let lower = c.args.lower.now in
    let fields = c.args.fields.now in
    let short : length lower ≡ 0 = omega arith in
    record {
      value = if_ok c.empty_record.result (λ made. take most (data_in made) ≡ take most (no_record (tys_of fields))) (λ made. take most (data_in made) ≡ take most (record_by names (tables_of lower) (tys_of fields)))
          (λ made p. p ∙ sym (ap (λ l. take most (record_by names (tables_of l) (tys_of fields))) (nil_from_length lower short)))
          (bare_record fields c.empty_record.result c.empty_record.ensures.empty c.empty_record.ensures.none);
    }

pub records_of-returns : goal.records_of-returns
records_of-returns t c =
    let names = types_of c.args.names.now in
    let lower = c.args.lower.now in
    let rest = take (length lower - 1) (drop 1 lower) in
    let fields = tys_of c.args.fields.now in
    let x = c.table-item.result in
    record {
      value = if_ok c.records.result (λ made. data_in made ≡ map (λ fs. Record fs) (rows_in c.in_ok-rows.rows)) (λ made. take most (data_in made) ≡ take most (record_by names (tables_of lower) fields))
          (λ made p. ap (take most) (p ∙ ap (map (λ fs. Record fs)) (c.in_ok-rows.ensures.value ∙ ap (λ l. row_choices (by_tables names (table_of l) (tables_of rest)) fields) c.as_slice.ensures))
          ∙ (cut_records (by_tables names (table_of x) (tables_of rest)) fields
          ∙ sym (ap (λ l. take most (record_by names l fields)) (lower_split lower x c.in-len1-up.len_at_least c.table-item.is)))) c.records.ensures.value;
    }

pub rows_of-values_of-requires : goal.rows_of-values_of-requires
rows_of-values_of-requires t c =
    let fields = c.args.fields.now in
    (fallen _ _ t c.decreases (field_falls fields (length fields - 1 - c.loop-turn.turn) c.index-fields-fields.result (omega arith) c.index-fields-fields.is), tt)

pub values_of-returns-in_ok-made-in-Record : goal.values_of-returns-in_ok-made-in-Record
values_of-returns-in_ok-made-in-Record t c =
    let names = types_of c.args.names.now in
    let table = table_of c.args.table.now in
    let lower = tables_of c.args.lower.now in
    record {
      value = c.cut.ensures.value
          ∙ (c.in_ok-made-in-Record.ensures.value
          ∙ (ap (λ l. take most (record_by names lower (tys_of l))) c.as_slice.ensures
          ∙ sym (ap (by_tables names table lower) (seen_record_ty c.args.ty.now c.in-Record.fields c.in-Record.is))));
    }
