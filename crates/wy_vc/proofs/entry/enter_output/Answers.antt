use Rattle.std.proofs.Common.{List, ℕ, refl, subst}
use Rattle.wy_vc_spec.specs.Making.{val_name}
use Rattle.wy_vc_body.proofs.wy_vc_exprs_proofs.StepLemmas.{name_count}
use Rattle.wy_vc_tables.specs.program_names.Described.{setting}
use Rattle.wy_vc_body.specs.wy_vc_operations.Growing.{Makes}
use Rattle.wy_vc_body.proofs.wy_vc_exprs_proofs.StateLemmas.{sound_made}
use Rattle.wy_vc_body.proofs.wy_vc_exprs_proofs.GivenLemmas.{name_made}
use Rattle.wy_vc.proofs.EntryLemmas.{output_entered}
use Rattle.wy_vc.proofs.entry.enter_output.Goals as goal

pub assume_in_type-requires-clause-sound : goal.assume_in_type-requires-clause-sound
assume_in_type-requires-clause-sound c =
    let n = name_made _ _ _ _ _ _ c.in_ok-number.ensures.value c.in_ok-number.ensures.after c.in_ok-name.ensures.made in
    sound_made _ _ c.requires.sound n.kept refl refl

pub returns-clause-value : goal.returns-clause-value
returns-clause-value c k =
    let a = c.args.walk.now in
    let n = name_made _ _ _ _ _ _ c.in_ok-number.ensures.value c.in_ok-number.ensures.after c.in_ok-name.ensures.made in
    let named = subst (λ (w : List ℕ). Makes a.maker.terms c.val_name.new.terms c.in_ok-name.name (val_name w a.maker.count)) c.in_ok-word.ensures.value n in
    output_entered (setting c.args.core.now c.args.program.now) c.args.routine.now c.args.output.now k c.args.vars.now.items c.put_if.new.vars.items a _ c.assume_in_type.new.walk c.in_ok-name.name c.as_slice-words.result.now
    c.as_slice-words.ensures c.requires.sound c.requires.slots named refl refl (name_count _ _ c.in_ok-number.ensures.after) c.in_ok-assume_in_type.ensures.value c.in_ok-put_if.ensures.value
