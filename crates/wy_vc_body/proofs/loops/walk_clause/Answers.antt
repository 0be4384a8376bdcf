use Rattle.std.proofs.Common.{refl}
use Rattle.wy_core.specs.CoreSeen.{seen_expr}
use Rattle.wy_vc_exprs.specs.wy_vc_spec.Numbered.{numbered}
use Rattle.wy_vc_body.specs.Frames.{program_of}
use Rattle.wy_vc_exprs.specs.Slots.{slots_of}
use Rattle.wy_vc_exprs.specs.declared.walk.Walk.{Walk}
use Rattle.wy_vc_exprs.proofs.NumberedLemmas.{at_itself}
use Rattle.wy_vc_exprs.proofs.ResultLemmas.{on_ok}
use Rattle.wy_vc_body.proofs.LoopLemmas.{clause_steps}
use Rattle.wy_vc_body.proofs.loops.walk_clause.Goals as goal

pub returns-clause-value : goal.returns-clause-value
returns-clause-value c =
    let a = c.args.walk.now in
    let b = c.walked.new.walk in
    let d : Walk = record b { maker = record b.maker { terms = c.formula.new.terms } } in
    on_ok c.assume.result _ _ c.assume.ensures.value
    (λ s. clause_steps (program_of c.args.core.now c.args.program.now) c.args.words.now (numbered (seen_expr c.args.clause.now) a.maker.node) (slots_of a.maker.terms c.args.vars.now) a b d c.assume.new.self c.in_ok-value.value c.in_ok-holds.holds
    c.in_ok-value.ensures.value (c.in_ok-holds.ensures.made _ (at_itself c.in_ok-value.ensures.value.is.within)) refl refl refl s)
