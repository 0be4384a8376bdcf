use Rattle.std.proofs.Common.{List, Option, ℕ, sym, subst}
use Rattle.wy_core.specs.CoreSeen.{seen_block, seen_exprs}
use Rattle.wy_vc_spec.specs.Numbered.{numbered_block, numbered_list}
use Rattle.wy_vc_body.specs.wy_vc_exprs.Slots.{AreSlots}
use Rattle.wy_vc_body.proofs.FrameLemmas.{frame_on}
use Rattle.wy_vc_body.proofs.wy_vc_exprs_proofs.SlotLemmas.{slots_on}
use Rattle.wy_vc.proofs.HeadLemmas.{enters_from, renewed_sound}
use Rattle.wy_vc.proofs.heads.enter_loop.Goals as goal

pub owe_invariants-requires-clause-slots : goal.owe_invariants-requires-clause-slots
owe_invariants-requires-clause-slots c = subst (λ (vs : List (Option ℕ)). AreSlots c.args.walk.now.maker.terms vs) (sym c.as_slice-vars.ensures.value) c.requires.slots

pub renew-requires-clause-frame : goal.renew-requires-clause-frame
renew-requires-clause-frame c = frame_on c.args.walk.now.maker.terms c.owe_invariants.new.walk.maker.terms c.in_ok-owe_invariants.ensures.value.kept c.args.frame.now c.requires.frame

pub renew-requires-clause-slots : goal.renew-requires-clause-slots
renew-requires-clause-slots c = slots_on c.args.walk.now.maker.terms c.owe_invariants.new.walk.maker.terms c.in_ok-owe_invariants.ensures.value.kept c.args.here.vars.items c.requires.slots

pub walk_clauses-requires-clause-sound : goal.walk_clauses-requires-clause-sound
walk_clauses-requires-clause-sound c = renewed_sound c.args.first c.renew.new.walk (c.in_ok-renew.ensures.value 0).sound

pub walk_clauses-requires-clause-slots : goal.walk_clauses-requires-clause-slots
walk_clauses-requires-clause-slots c = subst (λ (vs : List (Option ℕ)). AreSlots c.renew.new.walk.maker.terms vs) (sym c.as_slice-vars-2.ensures.value) (c.in_ok-renew.ensures.value 0).spot.slots

pub returns-clause-value : goal.returns-clause-value
returns-clause-value c = λ k.
    enters_from c.args.frame.now c.args.at c.args.first (numbered_list (seen_exprs c.args.invariants.now) c.args.first) (numbered_block (seen_block c.args.body.now) k) c.as_slice-words.result.now c.as_slice-vars.result.now c.as_slice-vars-2.result.now
    c.args.walk.now c.owe_invariants.new.walk c.renew.new.walk c.walk_clauses.new.walk c.args.here c.renew.new.here c.requires.frame c.requires.slots c.as_slice-vars.ensures.value c.as_slice-vars-2.ensures.value c.as_slice-words.ensures
    c.in_ok-owe_invariants.ensures.value (c.in_ok-renew.ensures.value k) c.in_ok-walk_clauses.ensures.value
