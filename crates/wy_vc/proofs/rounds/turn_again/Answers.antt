use Rattle.std.proofs.Common.{List, Option, ℕ, sym, subst}
use Rattle.wy_vc_body.specs.wy_vc_exprs.Slots.{AreSlots}
use Rattle.wy_vc.specs.Rounds.{around}
use Rattle.wy_vc.proofs.SimpleLemmas.{again_went}
use Rattle.wy_vc.proofs.rounds.turn_again.Goals as goal

pub owe_invariants-requires-clause-slots : goal.owe_invariants-requires-clause-slots
owe_invariants-requires-clause-slots c = subst (λ (vs : List (Option ℕ)). AreSlots c.args.walk.now.maker.terms vs) (sym c.as_slice.ensures.value) c.requires.slots

pub returns-clause-value : goal.returns-clause-value
returns-clause-value c =
    again_went c.args.frame.now (around c.args.round.now) c.args.at c.as_slice.result.now c.args.walk.now c.owe_invariants.new.walk c.args.here c.as_slice.ensures.value c.in_ok-owe_invariants.ensures.value
