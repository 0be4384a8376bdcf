use Rattle.std.proofs.Common.{◌∙◌, ap, sym, take}
use Rattle.std.proofs.lemmas.List.{take-map}
use Rattle.wy_value.specs.Seen.{seen}
use Rattle.wy_probe.specs.Tables.{data_in}
use Rattle.wy_probe.proofs.lists.cut.Goals as goal

pub returns : goal.returns
returns c = record { value = ap data_in (c.from_vec.ensures ∙ (c.truncate.ensures.items ∙ ap (take 64) c.into_vec-row.ensures)) ∙ sym (take-map seen 64 c.args.values) }
