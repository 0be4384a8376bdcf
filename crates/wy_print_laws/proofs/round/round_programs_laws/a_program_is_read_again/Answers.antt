use Rattle.wy_print_laws.proofs.round_lemmas.ProgramRound.{reads-again}
use Rattle.wy_print_laws.proofs.round.round_programs_laws.a_program_is_read_again.Goals as goal

pub returns : goal.returns
returns c = reads-again
