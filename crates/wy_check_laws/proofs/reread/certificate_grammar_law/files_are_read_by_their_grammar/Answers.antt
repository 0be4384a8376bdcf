use Rattle.wy_check_laws.proofs.reread_lemmas.FileLemmas.{files_are_read}
use Rattle.wy_check_laws.proofs.reread.certificate_grammar_law.files_are_read_by_their_grammar.Goals as goal

pub returns : goal.returns
returns c = record { read = files_are_read }
