use Rattle.wy_lex.proofs.ListsMade.{ends-at}
use Rattle.wy_lex.proofs.laws.the_last_token_is_end.Goals as goal

pub returns : goal.returns
returns c = ends-at
