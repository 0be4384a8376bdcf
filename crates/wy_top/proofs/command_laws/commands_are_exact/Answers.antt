use Rattle.wy_top.proofs.ExactLemmas.{does_exactly}
use Rattle.wy_top.proofs.command_laws.commands_are_exact.Goals as goal

pub returns : goal.returns
returns c = record { exact = does_exactly }
