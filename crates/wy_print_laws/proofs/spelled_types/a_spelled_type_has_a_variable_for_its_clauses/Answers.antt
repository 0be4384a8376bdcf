use Rattle.wy_print_laws.proofs.spelled_types_lemmas.SpelledLemmas.{spelled_variables}
use Rattle.wy_print_laws.proofs.spelled_types.a_spelled_type_has_a_variable_for_its_clauses.Goals as goal

pub returns : goal.returns
returns c = record { variables = spelled_variables }
