use Rattle.wy_vc_tables.specs.program_names.Described.{setting}
use Rattle.wy_vc.proofs.EntryLemmas.{entered, no_slots}
use Rattle.wy_vc.proofs.entry.enter.Goals as goal

pub name_params-requires-clause-slots : goal.name_params-requires-clause-slots
name_params-requires-clause-slots c = no_slots c.args.walk.now.maker.terms c.new-here.result.vars.items c.new-here.ensures.vars

pub assume_params-requires-clause-sound : goal.assume_params-requires-clause-sound
assume_params-requires-clause-sound c = c.in_ok-name_params.ensures.value.sound

pub assume_params-requires-clause-slots : goal.assume_params-requires-clause-slots
assume_params-requires-clause-slots c = c.in_ok-name_params.ensures.value.spot.slots

pub returns-clause-value : goal.returns-clause-value
returns-clause-value c k =
    entered (setting c.args.core.now c.args.program.now) c.args.routine.now k c.args.walk.now c.name_params.new.walk c.assume_params.new.walk c.new-here.result c.name_params.new.here c.as_slice-words.result.now c.as_slice-params.result.now
    c.as_slice-words.ensures c.as_slice-params.ensures c.requires.hyps c.requires.count c.new-here.ensures.vars c.new-here.ensures.set
    c.in_ok-name_params.ensures.value c.in_ok-assume_params.ensures.value
