use Rattle.std.proofs.Common.{List, Option, ℕ, length, sym, subst}
use Rattle.wy_core.specs.CoreSeen.{seen_exprs}
use Rattle.wy_core.specs.CoreTree.{exprs_of}
use Rattle.wy_vc_body.specs.wy_vc_operations.Growing.{AreBelow}
use Rattle.wy_vc_body.specs.wy_vc_exprs.Slots.{AreSlots}
use Rattle.wy_vc.proofs.SimpleLemmas.{called_went, walked_all_by}
use Rattle.wy_vc.proofs.simple.call_method.Goals as goal

pub walked_all-requires-clause-slots : goal.walked_all-requires-clause-slots
walked_all-requires-clause-slots c = subst (λ (vs : List (Option ℕ)). AreSlots c.args.walk.now.maker.terms vs) (sym c.as_slice-vars.ensures.value) c.requires.slots

pub call-requires-clause-args : goal.call-requires-clause-args
call-requires-clause-args c = subst (λ (ks : List ℕ). AreBelow (length c.walked_all.new.walk.maker.terms) ks) (sym c.as_slice-given.ensures.value) c.in_ok-terms.ensures.value.are.within

pub returns-clause-value : goal.returns-clause-value
returns-clause-value c = λ around.
    let a = c.args.walk.now in
    let b = c.walked_all.new.walk in
    let E = exprs_of (seen_exprs c.args.args.now) in
    let walk = walked_all_by c.args.frame.now E c.as_slice-words.result.now c.as_slice-vars.result.now c.args.here.vars.items a b c.in_ok-terms.terms.items c.as_slice-words.ensures c.as_slice-vars.ensures.value c.in_ok-terms.ensures.value in
    called_went c.args.frame.now around c.args.at c.args.routine c.in_ok-call.field-0 E c.in_ok-terms.terms.items c.as_slice-given.result.now a b c.call.new.walk c.args.here c.requires.slots walk c.as_slice-given.ensures.value c.in_ok-call.ensures.value
