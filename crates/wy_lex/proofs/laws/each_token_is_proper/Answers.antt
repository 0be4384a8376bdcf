use Rattle.wy_lex.proofs.ListsMade.{proper}
use Rattle.wy_lex.proofs.laws.each_token_is_proper.Goals as goal

pub returns : goal.returns
returns c = proper
