use Rattle.wy_types_laws.proofs.asked_types_lemmas.ShownLemmas.{lacks_shown, fields_shown}
use Rattle.wy_types_laws.proofs.asked_types.fields_are_those_of_records.Goals as goal

pub returns : goal.returns
returns c = record { lacks = lacks_shown; values = fields_shown }
