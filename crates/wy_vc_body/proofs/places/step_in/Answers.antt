use Rattle.std.proofs.Common.{ℕ, IfOk, sym, ap, subst}
use Rattle.wy_core.specs.CoreTree as tree
use Rattle.wy_core.specs.CoreSeen.{seen_step_kind}
use Rattle.wy_core.specs.declared.statements.StepKind.{StepKind}
use Rattle.wy_term.specs.Nodes.{tree_at}
use Rattle.wy_vc_exprs.specs.Slots.{slots_of}
use Rattle.wy_vc_exprs.specs.State.{hyps_of}
use Rattle.wy_vc_body.specs.Frames.{body_at}
use Rattle.wy_vc_body.specs.Places.{Stepping, numbered_step, stepped}
use Rattle.wy_vc_body.proofs.places.step_in.Goals as goal

pub returns-in-Field-clause-value : goal.returns-in-Field-clause-value
returns-in-Field-clause-value c =
    let a = c.args.walk.now in
    let B = body_at a.maker.terms c.args.frame.now in
    let V = slots_of a.maker.terms c.args.vars.now in
    subst (λ (x : tree.Step ℕ). IfOk c.step_in_record.result (λ l. Stepping a c.step_in_record.new.walk l.part l.whole (stepped B (numbered_step x a.maker.node) (tree_at a.maker.terms c.args.whole) V (hyps_of a) a.maker.count)))
    (sym (ap (λ (k : StepKind). seen_step_kind k c.args.step.now.at) c.in-Field.is)) (c.step_in_record.ensures.value B V)
