use Rattle.std.proofs.Common.{◌∙◌, sym}
use Rattle.wy_code_spec.proofs.tables_lemmas.KeyLemmas.{place_some, place_none}
use Rattle.wy_code_spec.proofs.tables.table.place_of_name.Goals as goal

pub returns-in-Some : goal.returns-in-Some
returns-in-Some c = record { value = place_some c.args.name.now c.args.names.now.keys c.in-Some.place (sym c.get_index_of.ensures.index ∙ c.in-Some.is) }

pub returns-in-None : goal.returns-in-None
returns-in-None c = record { value = c.len.ensures.len ∙ place_none c.args.name.now c.args.names.now.keys (sym c.get_index_of.ensures.index ∙ c.in-None.is) }
