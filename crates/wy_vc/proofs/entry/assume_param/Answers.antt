use Rattle.std.proofs.Common.{List, ℕ, Option, refl, sym, subst}
use Rattle.wy_core.specs.CoreSeen.{seen_param}
use Rattle.wy_vc_body.specs.wy_vc_operations.Growing.{AreSlotsAt}
use Rattle.wy_vc_tables.specs.program_names.Described.{setting}
use Rattle.wy_vc_body.specs.wy_vc_exprs.Slots.{slots_of}
use Rattle.wy_vc_body.specs.wy_vc_exprs.declared.walk.Walk.{Walk}
use Rattle.wy_vc_body.proofs.wy_vc_exprs_proofs.ResultLemmas.{on_ok}
use Rattle.wy_vc_body.proofs.wy_vc_exprs_proofs.SlotLemmas.{slots_itself}
use Rattle.wy_vc_body.proofs.wy_vc_exprs_proofs.StateLemmas.{sound_made}
use Rattle.wy_vc.proofs.EntryLemmas.{param_typed}
use Rattle.wy_vc.proofs.entry.assume_param.Goals as goal

pub assume_in_type-requires-clause-sound : goal.assume_in_type-requires-clause-sound
assume_in_type-requires-clause-sound c =
    let a = c.args.walk.now in
    let b : Walk = record a { maker = record a.maker { terms = c.variable.new.terms } } in
    let V = slots_of a.maker.terms c.args.here.now.vars.items in
    let made = c.in_ok-term.ensures.made V (subst (λ (vs : List (Option ℕ)). AreSlotsAt a.maker.terms vs V) (sym c.as_slice.ensures.value) (slots_itself c.requires.slots)) in
    sound_made a b c.requires.sound made.kept refl refl

pub returns-clause-value : goal.returns-clause-value
returns-clause-value c =
    let a = c.args.walk.now in
    let b : Walk = record a { maker = record a.maker { terms = c.variable.new.terms } } in
    let V = slots_of a.maker.terms c.args.here.now.vars.items in
    let made = c.in_ok-term.ensures.made V (subst (λ (vs : List (Option ℕ)). AreSlotsAt a.maker.terms vs V) (sym c.as_slice.ensures.value) (slots_itself c.requires.slots)) in
    on_ok c.assume_in_type.result _ _ c.assume_in_type.ensures.value
    (λ s. param_typed (setting c.args.core.now c.args.program.now) (seen_param c.args.param.now) c.in_ok-term.term a b c.assume_in_type.new.walk c.args.here.now c.requires.sound c.requires.slots made refl refl refl s)
