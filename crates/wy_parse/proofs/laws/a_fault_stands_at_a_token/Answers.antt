use Rattle.wy_parse.proofs.FrontLemmas.{meets-token}
use Rattle.wy_parse.proofs.laws.a_fault_stands_at_a_token.Goals as goal

pub returns : goal.returns
returns c = meets-token
