use Rattle.wy_types_laws.proofs.asked_types_lemmas.ShownLemmas.{normal_rows}
use Rattle.wy_types_laws.proofs.asked_types.normal_types_have_rows.Goals as goal

pub returns : goal.returns
returns c = record { value = normal_rows }
