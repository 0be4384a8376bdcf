use Rattle.std.proofs.Common.{sym}
use Rattle.wy_vc_exprs.proofs.NumberedLemmas.{at_itself}
use Rattle.wy_vc_body.proofs.PathLemmas.{slot_within}
use Rattle.wy_vc_body.proofs.EquationLemmas.{equate_none, equate_some}
use Rattle.wy_vc_body.proofs.known.equate.Goals as goal

pub returns-in-None-clause-made : goal.returns-in-None-clause-made
returns-in-None-clause-made c = λ fs are. equate_none c.args.maker.now.terms c.args.vars.now c.args.x c.args.name c.args.since.now.items fs (sym c.in-None.ensures.value) are

pub returns-in_ok-push-in-Some-clause-kept : goal.returns-in_ok-push-in-Some-clause-kept
returns-in_ok-push-in-Some-clause-kept c =
    let within = slot_within _ c.args.vars.now c.args.x c.in-Some.term c.requires.slots (sym c.in-Some.ensures.value) in
    (c.in_ok-equation-in-Some.ensures.made _ _ (at_itself c.requires.name) (at_itself within)).kept

pub returns-in_ok-push-in-Some-clause-made : goal.returns-in_ok-push-in-Some-clause-made
returns-in_ok-push-in-Some-clause-made c =
    let within = slot_within _ c.args.vars.now c.args.x c.in-Some.term c.requires.slots (sym c.in-Some.ensures.value) in
    λ fs are. equate_some c.args.maker.now.terms c.equal.new.terms c.args.vars.now c.args.x c.args.name c.in-Some.term c.in_ok-equation-in-Some.equation c.args.since.now.items c.push.new.self.items fs (sym c.in-Some.ensures.value)
    (c.in_ok-equation-in-Some.ensures.made _ _ (at_itself c.requires.name) (at_itself within)) c.in_ok-push-in-Some.ensures.items are
