use Rattle.wy_vc_laws.proofs.shown_lemmas.TruthLemmas.{premises_met, program_truths}
use Rattle.wy_vc_laws.proofs.shown.certified_programs_law.certified_programs_owe_truths.Goals as goal

pub returns : goal.returns
returns c = record { premises = premises_met; holds = program_truths }
