use Rattle.wy_parse.proofs.ParseRefusals.{no_high_program_with_a_fault, no_high_program_that_leaves, one_high_place}
use Rattle.wy_parse.proofs.laws.a_high_node_is_the_only_fault.Goals as goal

pub returns : goal.returns
returns c = record { meets = no_high_program_with_a_fault; leaves = no_high_program_that_leaves; one = one_high_place }
