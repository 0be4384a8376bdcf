use Rattle.wy_check_laws.proofs.reread_lemmas.FileStops.{faults_stand}
use Rattle.wy_check_laws.proofs.reread.certificate_grammar_law.faults_stand_at_their_lines.Goals as goal

pub returns : goal.returns
returns c = record { stand = faults_stand }
