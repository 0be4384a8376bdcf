use Rattle.std.proofs.Common.{refl, ◌∙◌}
use Rattle.wy_vc_body.specs.declared.frame.Frame.{Frame}
use Rattle.wy_vc_body.specs.Frames.{IsFrame}
use Rattle.wy_vc_body.proofs.FrameLemmas.{frame_on}
use Rattle.wy_vc_body.specs.wy_vc_exprs.declared.walk.Walk.{Walk}
use Rattle.wy_vc_body.proofs.wy_vc_exprs_proofs.ResultLemmas.{on_ok}
use Rattle.wy_vc.proofs.OwingLemmas.{begun_sound, entry_here, entry_on}
use Rattle.wy_vc.proofs.BodyLemmas.{body_owes}
use Rattle.wy_vc.proofs.bodies.owe_body.Goals as goal

pub enter-requires-clause-sound : goal.enter-requires-clause-sound
enter-requires-clause-sound c = begun_sound c.args.walk.now c.begin.new.walk c.requires.sound c.begin.ensures.terms c.begin.ensures.owed c.begin.ensures.hyps

pub assume_clauses-requires-clause-sound : goal.assume_clauses-requires-clause-sound
assume_clauses-requires-clause-sound c = (c.in_ok-here.ensures.value 0).sound

pub assume_clauses-requires-clause-slots : goal.assume_clauses-requires-clause-slots
assume_clauses-requires-clause-slots c = entry_here _ _ _ _ _ (c.in_ok-here.ensures.value 0) (c.in_ok-entry.ensures.items ∙ c.as_slice.ensures.value)

pub exec_body-requires-clause-frame : goal.exec_body-requires-clause-frame
exec_body-requires-clause-frame c = record {
  described = c.requires.described;
  called = c.requires.called;
  entry = entry_on _ _ _ _ _ _ _ (c.in_ok-here.ensures.value 0) c.in_ok-assume_clauses.ensures.value (c.in_ok-assume_clauses.ensures.vars ∙ c.in_ok-entry.ensures.items ∙ c.as_slice.ensures.value);
}

pub exec_body-requires-clause-sound : goal.exec_body-requires-clause-sound
exec_body-requires-clause-sound c = let s = c.in_ok-assume_clauses.ensures.value.sound in record { hyps = s.hyps; owed = s.owed }

pub exec_body-requires-clause-slots : goal.exec_body-requires-clause-slots
exec_body-requires-clause-slots c = entry_on _ _ _ _ _ _ _ (c.in_ok-here.ensures.value 0) c.in_ok-assume_clauses.ensures.value refl

pub owe_end-requires-clause-frame : goal.owe_end-requires-clause-frame
owe_end-requires-clause-frame c =
    let b = c.assume_clauses.new.walk in
    let frame : Frame = record { core = c.args.core; program = c.args.program; routine = c.args.routine; called = c.args.called; types = c.in_ok-types.types; entry = c.assume_clauses.new.vars } in
    frame_on b.maker.terms c.exec_body.new.walk.maker.terms c.in_ok-end.ensures.value.kept frame (record {
      described = c.requires.described;
      called = c.requires.called;
      entry = entry_on _ _ _ _ _ _ _ (c.in_ok-here.ensures.value 0) c.in_ok-assume_clauses.ensures.value (c.in_ok-assume_clauses.ensures.vars ∙ c.in_ok-entry.ensures.items ∙ c.as_slice.ensures.value);
    })

pub owe_end-requires-clause-sound : goal.owe_end-requires-clause-sound
owe_end-requires-clause-sound c = c.in_ok-end.ensures.value.sound

pub returns : goal.returns
returns c =
    let b = c.assume_clauses.new.walk in
    let d : Walk = record b { maker = record b.maker { node = c.args.called.body } } in
    let frame : Frame = record { core = c.args.core; program = c.args.program; routine = c.args.routine; called = c.args.called; types = c.in_ok-types.types; entry = c.assume_clauses.new.vars } in
    let same = c.in_ok-assume_clauses.ensures.vars ∙ c.in_ok-entry.ensures.items ∙ c.as_slice.ensures.value in
    let is_frame : IsFrame d.maker.terms frame = record {
      described = c.requires.described;
      called = c.requires.called;
      entry = entry_on _ _ _ _ _ _ _ (c.in_ok-here.ensures.value 0) c.in_ok-assume_clauses.ensures.value same;
    } in
    let went = c.in_ok-end.ensures.value in
    record {
      value = on_ok c.owe_end.result _ _ (c.owe_end.ensures.value _ went.ends)
          (λ s. body_owes frame c.args.walk.now c.begin.new.walk c.enter.new.walk b d c.exec_body.new.walk c.owe_end.new.walk c.in_ok-here.here c.in_ok-end.end c.in_ok-entry.entry.items c.as_slice-words.result.now c.as_slice-clauses.result.now c.as_slice-2.result.now
          c.as_slice-words.ensures c.as_slice-clauses.ensures (c.in_ok-entry.ensures.items ∙ c.as_slice.ensures.value) same c.as_slice-2.ensures
          c.begin.ensures.terms c.begin.ensures.owed c.begin.ensures.node (c.in_ok-here.ensures.value c.args.called.preconditions) c.in_ok-here.ensures.node c.in_ok-assume_clauses.ensures.value
          refl refl refl refl refl is_frame c.in_ok-types.ensures.value went s);
    }
