use Rattle.wy_headline.proofs.SeenLemmas.{never_sticks}
use Rattle.wy_headline.proofs.law.the_machine_never_sticks.Goals as goal

pub returns : goal.returns
returns c = record { never = never_sticks }
