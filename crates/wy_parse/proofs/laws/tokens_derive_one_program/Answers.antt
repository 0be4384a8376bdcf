use Rattle.wy_parse.proofs.ParseRefusals.{one_program}
use Rattle.wy_parse.proofs.laws.tokens_derive_one_program.Goals as goal

pub returns : goal.returns
returns c = one_program
