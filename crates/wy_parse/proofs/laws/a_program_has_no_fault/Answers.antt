use Rattle.wy_parse.proofs.ParseRefusals.{no_program_with_a_fault, no_program_that_leaves, no_high_program}
use Rattle.wy_parse.proofs.laws.a_program_has_no_fault.Goals as goal

pub returns : goal.returns
returns c = record { meets = no_program_with_a_fault; leaves = no_program_that_leaves; high = no_high_program }
