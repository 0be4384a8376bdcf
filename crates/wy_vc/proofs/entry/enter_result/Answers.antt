use Rattle.std.proofs.Common.{Option, subst, sym}
use Rattle.wy_vc_spec.specs.Numbered.{numbered_routine}
use Rattle.wy_vc_spec.specs.Programs.{enter_result}
use Rattle.wy_core.specs.CoreSeen.{seen_output, seen_routine}
use Rattle.wy_core.specs.declared.declarations.Output.{Output}
use Rattle.wy_vc_tables.specs.program_names.Described.{setting}
use Rattle.wy_vc_body.specs.wy_vc_exprs.Slots.{slots_of}
use Rattle.wy_vc_body.specs.wy_vc_exprs.State.{hyps_of}
use Rattle.wy_vc_body.proofs.wy_vc_exprs_proofs.ResultLemmas.{on_ok}
use Rattle.wy_vc.specs.Entering.{Enters}
use Rattle.wy_vc.proofs.EntryLemmas.{nothing_entered}
use Rattle.wy_vc.proofs.entry.enter_result.Goals as goal

pub returns-in-None-clause-value : goal.returns-in-None-clause-value
returns-in-None-clause-value c k =
    nothing_entered (setting c.args.core.now c.args.program.now) c.args.routine.now k c.args.walk.now c.args.routine.now.result c.args.vars.now.items c.requires.sound c.requires.slots c.in-None.is

pub returns-in-Some-clause-value : goal.returns-in-Some-clause-value
returns-in-Some-clause-value c k =
    let a = c.args.walk.now in
    let S = setting c.args.core.now c.args.program.now in
    on_ok c.enter_output.result _ _ (c.enter_output.ensures.value k)
    (λ s. subst (λ (o : Option Output). Enters a c.enter_output.new.walk c.enter_output.new.vars.items (enter_result S (numbered_routine (seen_routine c.args.routine.now) k) (seen_output o) (slots_of a.maker.terms c.args.vars.now.items) (hyps_of a) a.maker.count)) (sym c.in-Some.is) s)
