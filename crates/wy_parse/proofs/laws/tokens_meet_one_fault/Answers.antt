use Rattle.wy_parse.proofs.ParseRefusals.{one_fault, one_leaving_place}
use Rattle.wy_parse.proofs.laws.tokens_meet_one_fault.Goals as goal

pub returns : goal.returns
returns c = record { meets = one_fault; leaves = one_leaving_place }
