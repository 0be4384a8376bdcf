use Rattle.wy_facts.proofs.TruthLemmas.{facts_are_true}
use Rattle.wy_facts.proofs.law.facts_are_true.Goals as goal

pub returns : goal.returns
returns c = record { sound = facts_are_true }
