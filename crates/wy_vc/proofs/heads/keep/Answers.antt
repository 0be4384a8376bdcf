use Rattle.std.proofs.Common.{List, Option, ℕ, sym, subst}
use Rattle.wy_vc_body.specs.Frames.{body_at}
use Rattle.wy_vc_body.specs.wy_vc_exprs.Slots.{AreSlots}
use Rattle.wy_vc_body.proofs.wy_vc_exprs_proofs.ResultLemmas.{on_ok}
use Rattle.wy_vc.specs.Flows.{IsEndOf}
use Rattle.wy_vc.specs.Rounds.{around}
use Rattle.wy_vc.proofs.HeadLemmas.{kept_none, kept_some}
use Rattle.wy_vc.proofs.heads.keep.Goals as goal

pub owe_invariants-requires-clause-slots : goal.owe_invariants-requires-clause-slots
owe_invariants-requires-clause-slots c =
    subst (λ (vs : List (Option ℕ)). AreSlots c.args.walk.now.maker.terms vs) (sym c.as_slice.ensures.value) (subst (λ o. IsEndOf c.args.walk.now.maker.terms o) c.in-Some.is c.requires.end)

pub returns-in-None-clause-value : goal.returns-in-None-clause-value
returns-in-None-clause-value c = kept_none (body_at c.args.walk.now.maker.terms c.args.frame.now) c.args.at (around c.args.round.now) c.args.walk.now c.args.end.now c.requires.sound c.in-None.is

pub returns-in-Some-clause-value : goal.returns-in-Some-clause-value
returns-in-Some-clause-value c =
    on_ok c.owe_invariants.result _ _ c.owe_invariants.ensures.value
    (λ s. kept_some c.args.frame.now c.args.at (around c.args.round.now) c.as_slice.result.now c.args.walk.now c.owe_invariants.new.walk c.args.end.now c.in-Some.here c.in-Some.is c.as_slice.ensures.value s)
