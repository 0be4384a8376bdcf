use Rattle.wy_types_laws.proofs.parts_lemmas.NormLemmas.{norms_same}
use Rattle.wy_types_laws.proofs.parts_lemmas.ItemLemmas.{items_are_in}
use Rattle.wy_types_laws.proofs.parts_lemmas.ValueLemmas.{values_are_in}
use Rattle.wy_types_laws.proofs.parts.parts_are_told.Goals as goal

pub returns : goal.returns
returns c = record { norms = norms_same; items = items_are_in; values = values_are_in }
