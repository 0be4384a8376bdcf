use Rattle.std.proofs.Common.{List, Option, ℕ, refl, ◌∙◌, ap}
use Rattle.wy_vc_spec.specs.Variables.{put as slot_put}
use Rattle.wy_vc_body.specs.Frames.{program_of}
use Rattle.wy_vc_body.specs.wy_vc_exprs.declared.walk.Walk.{Walk}
use Rattle.wy_vc_body.proofs.wy_vc_exprs_proofs.ResultLemmas.{on_ok}
use Rattle.wy_vc_body.proofs.wy_vc_exprs_proofs.StateLemmas.{sound_made}
use Rattle.wy_vc.proofs.OwingLemmas.{begun_sound, one_slot, type_owes}
use Rattle.wy_vc.proofs.types.owe_type_clauses.Goals as goal

pub assume_in_type-requires-clause-sound : goal.assume_in_type-requires-clause-sound
assume_in_type-requires-clause-sound c =
    let z = c.begin.new.walk in
    let b : Walk = record z { maker = c.new_name.new.maker } in
    sound_made z b (begun_sound c.args.walk.now z c.requires.sound c.begin.ensures.terms c.begin.ensures.owed c.begin.ensures.hyps) c.in_ok-name.ensures.made.kept refl refl

pub walk_clauses-requires-clause-sound : goal.walk_clauses-requires-clause-sound
walk_clauses-requires-clause-sound c = c.in_ok-assume_in_type.ensures.value.sound

pub walk_clauses-requires-clause-slots : goal.walk_clauses-requires-clause-slots
walk_clauses-requires-clause-slots c =
    let z = c.begin.new.walk in
    let b : Walk = record z { maker = c.new_name.new.maker } in
    one_slot z b c.assume_in_type.new.walk c.in_ok-name.name c.args.variable _ c.put.new.vars.items c.as_slice.result.now c.in_ok-name.ensures.made c.in_ok-assume_in_type.ensures.value.kept (c.in_ok-put.ensures.value ∙ ap (λ (l : List (Option ℕ)). slot_put l c.args.variable c.in_ok-name.name) c.new-vars.ensures.items) c.as_slice.ensures.value

pub returns : goal.returns
returns c =
    let z = c.begin.new.walk in
    let b : Walk = record z { maker = c.new_name.new.maker } in
    record {
      value = on_ok c.walk_clauses.result _ _ c.walk_clauses.ensures.value
          (λ s. type_owes (program_of c.args.core.now c.args.program.now) c.args.alias.now c.args.variable c.args.first c.in_ok-name.name c.args.walk.now z b c.assume_in_type.new.walk c.walk_clauses.new.walk c.put.new.vars.items c.as_slice.result.now c.as_slice-words.result.now c.as_slice-clauses.result.now
          c.as_slice-words.ensures c.as_slice-clauses.ensures c.as_slice.ensures.value
          c.requires.sound c.begin.ensures.terms c.begin.ensures.owed c.begin.ensures.hyps c.begin.ensures.count c.begin.ensures.node
          c.in_ok-name.ensures.made refl refl c.in_ok-name.ensures.count c.in_ok-name.ensures.node c.in_ok-assume_in_type.ensures.value c.in_ok-assume_in_type.ensures.node (c.in_ok-put.ensures.value ∙ ap (λ (l : List (Option ℕ)). slot_put l c.args.variable c.in_ok-name.name) c.new-vars.ensures.items) s);
    }
