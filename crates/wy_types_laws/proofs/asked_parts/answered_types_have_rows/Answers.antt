use Rattle.wy_types_laws.proofs.asked_parts_lemmas.AnswerLemmas.{norm_rows, element_rows, field_rows, with_rows}
use Rattle.wy_types_laws.proofs.asked_parts.answered_types_have_rows.Goals as goal

pub returns : goal.returns
returns c = record { norm = norm_rows; element = element_rows; field = field_rows; with_field = with_rows }
