use Rattle.wy_names.specs.Named.{scope_of}
use Rattle.wy_names.proofs.resolved_lemmas.NameFaultsUseLemmas.{listed_use, use_listed}
use Rattle.wy_names.proofs.resolved.name_faults_laws.the_uses_listed_are_those_of_the_program.Goals as goal

pub returns : goal.returns
returns c = record { program = λ ds e h. listed_use (scope_of ds) ds e h; listed = λ ds e h. use_listed (scope_of ds) ds e h }
