use Rattle.std.proofs.Common.{◌∙◌, ap, sym, take}
use Rattle.std.proofs.lemmas.List.{take-map}
use Rattle.wy_value.specs.Seen.{seen_fields}
use Rattle.wy_probe.specs.Tables.{rows_in}
use Rattle.wy_probe.proofs.records.cut_rows.Goals as goal

pub returns : goal.returns
returns c = record { value = ap rows_in (c.from_vec.ensures ∙ (c.truncate.ensures.items ∙ ap (take 64) c.into_vec-made.ensures)) ∙ sym (take-map seen_fields 64 c.args.rows) }
