use Rattle.wy_link_load.proofs.ShownLemmas.{as_shown}
use Rattle.wy_link_load.proofs.law.imports_are_as_shown.Goals as goal

pub returns : goal.returns
returns c = record { shown = as_shown }
