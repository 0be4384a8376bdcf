use Rattle.wy_print_laws.proofs.round_lemmas.RoundTrips.{expr-again}
use Rattle.wy_print_laws.proofs.round.laws.an_expression_is_read_again.Goals as goal

pub returns : goal.returns
returns c = expr-again
