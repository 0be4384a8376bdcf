use Rattle.wy_parse.proofs.FaultLemmas.{meets-possible}
use Rattle.wy_parse.proofs.laws.a_fault_stands_before_the_first_impossible_token.Goals as goal

pub returns : goal.returns
returns c = meets-possible
