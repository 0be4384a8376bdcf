use Rattle.std.proofs.Common.{refl}
use Rattle.wy_core.specs.CoreSeen.{seen_expr}
use Rattle.wy_vc_spec.specs.Numbered.{numbered}
use Rattle.wy_vc_spec.specs.Statements as spec
use Rattle.wy_vc_body.specs.Frames.{body_at}
use Rattle.wy_vc_body.specs.wy_vc_exprs.Slots.{slots_of}
use Rattle.wy_vc_body.specs.wy_vc_exprs.State.{hyps_of}
use Rattle.wy_vc_body.specs.wy_vc_exprs.declared.walk.Walk.{Walk}
use Rattle.wy_vc_body.proofs.wy_vc_exprs_proofs.NumberedLemmas.{at_itself}
use Rattle.wy_vc.specs.declared.branches.Tested.{Tested}
use Rattle.wy_vc.proofs.BranchLemmas.{tested_is}
use Rattle.wy_vc.proofs.SimpleLemmas.{walked_by}
use Rattle.wy_vc.proofs.branches.walk_test.Goals as goal

pub returns-clause-value : goal.returns-clause-value
returns-clause-value c =
    let frame = c.args.frame.now in
    let a = c.args.walk.now in
    let b = c.walked.new.walk in
    let d : Walk = record b { maker = record b.maker { terms = c.denied.new.terms } } in
    let E = seen_expr c.args.test.now in
    let t : Tested = record { base = c.mark.result; holds = c.in_ok-holds.holds; fails = c.in_ok-fails.fails } in
    let walk = walked_by frame E c.as_slice-words.result.now c.args.vars.now c.args.vars.now a b c.in_ok-value.value c.as_slice-words.ensures refl c.in_ok-value.ensures.value in
    let holds = c.in_ok-holds.ensures.made _ (at_itself walk.is.within) in
    tested_is (spec.expr (body_at a.maker.terms frame) (numbered E a.maker.node) (slots_of a.maker.terms c.args.vars.now) (hyps_of a) a.maker.count) a b d c.formula.new.terms c.in_ok-value.value t walk holds (c.in_ok-fails.ensures.made _ (at_itself holds.here.within)) refl refl refl c.mark.ensures.value
