use Rattle.wy_vc_body.specs.Frames.{program_of}
use Rattle.wy_vc_body.proofs.wy_vc_exprs_proofs.ResultLemmas.{on_ok}
use Rattle.wy_vc.proofs.OwingLemmas.{begun_sound, contract_owes, entry_here, entry_on}
use Rattle.wy_vc.proofs.contracts.owe_contract.Goals as goal

pub enter-requires-clause-sound : goal.enter-requires-clause-sound
enter-requires-clause-sound c = begun_sound c.args.walk.now c.begin.new.walk c.requires.sound c.begin.ensures.terms c.begin.ensures.owed c.begin.ensures.hyps

pub walk_clauses-requires-clause-sound : goal.walk_clauses-requires-clause-sound
walk_clauses-requires-clause-sound c = (c.in_ok-here.ensures.value 0).sound

pub walk_clauses-requires-clause-slots : goal.walk_clauses-requires-clause-slots
walk_clauses-requires-clause-slots c = entry_here _ _ _ _ _ (c.in_ok-here.ensures.value 0) c.as_slice.ensures.value

pub owe_ensures-requires-clause-sound : goal.owe_ensures-requires-clause-sound
owe_ensures-requires-clause-sound c = c.in_ok-walk_clauses.ensures.value.sound

pub owe_ensures-requires-clause-slots : goal.owe_ensures-requires-clause-slots
owe_ensures-requires-clause-slots c = entry_on _ _ _ _ _ _ _ (c.in_ok-here.ensures.value 0) c.in_ok-walk_clauses.ensures.value c.as_slice-2.ensures.value

pub returns : goal.returns
returns c = record {
  value = on_ok c.owe_ensures.result _ _ (c.owe_ensures.ensures.value c.args.first)
      (λ s. contract_owes (program_of c.args.core.now c.args.program.now) c.args.routine.now c.args.first c.args.walk.now c.begin.new.walk c.enter.new.walk c.walk_clauses.new.walk c.owe_ensures.new.walk c.in_ok-here.here c.as_slice.result.now c.as_slice-2.result.now c.as_slice-words.result.now c.as_slice-clauses.result.now
      c.as_slice-words.ensures c.as_slice-clauses.ensures c.as_slice.ensures.value c.as_slice-2.ensures.value
      c.begin.ensures.terms c.begin.ensures.owed c.begin.ensures.node (c.in_ok-here.ensures.value c.args.first) c.in_ok-here.ensures.node c.in_ok-walk_clauses.ensures.value c.in_ok-walk_clauses.ensures.node s);
}
