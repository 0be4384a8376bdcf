use Rattle.wy_print_laws.proofs.round_lemmas.OneProgram.{reads-same}
use Rattle.wy_print_laws.proofs.round.round_programs_laws.a_printed_program_is_itself.Goals as goal

pub returns : goal.returns
returns c = reads-same
