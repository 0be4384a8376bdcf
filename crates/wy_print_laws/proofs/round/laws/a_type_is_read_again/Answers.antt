use Rattle.wy_print_laws.proofs.round_lemmas.RoundTrips.{type-again}
use Rattle.wy_print_laws.proofs.round.laws.a_type_is_read_again.Goals as goal

pub returns : goal.returns
returns c = type-again
