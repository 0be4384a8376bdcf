use Rattle.wy_vc_body.specs.Frames.{body_at}
use Rattle.wy_vc_body.proofs.wy_vc_exprs_proofs.ResultLemmas.{on_ok}
use Rattle.wy_vc.proofs.OwingLemmas.{end_given, end_none, end_some}
use Rattle.wy_vc.proofs.bodies.owe_end.Goals as goal

pub returns-in-Some : goal.returns-in-Some
returns-in-Some c = record {
  value = λ p is. end_given (body_at c.args.walk.now.maker.terms c.args.frame.now) c.args.frame.now.routine.now.result _ p c.args.walk.now.maker.count c.args.walk.now c.requires.sound c.in-Some.is;
}

pub returns-in-None-end : goal.returns-in-None-end
returns-in-None-end c = record {
  value = λ p is. end_none (body_at c.args.walk.now.maker.terms c.args.frame.now) c.args.frame.now.routine.now.result c.args.end p c.args.walk.now.maker.count c.args.walk.now c.requires.sound c.in-None.is c.in-None-end.is is;
}

pub returns : goal.returns
returns c = record {
  value = λ p is. on_ok c.leave.result _ _ c.leave.ensures.value
      (λ s. end_some (body_at c.args.walk.now.maker.terms c.args.frame.now) c.args.frame.now.routine.now.result c.args.end _ p c.args.walk.now c.leave.new.walk c.in-None.is c.in-Some-end.is is s);
}
