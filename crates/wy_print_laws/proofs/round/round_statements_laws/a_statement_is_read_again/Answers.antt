use Rattle.wy_print_laws.proofs.round_lemmas.StmtAlone.{statement-again}
use Rattle.wy_print_laws.proofs.round.round_statements_laws.a_statement_is_read_again.Goals as goal

pub returns : goal.returns
returns c = statement-again
