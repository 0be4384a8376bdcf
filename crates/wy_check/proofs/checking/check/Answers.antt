use Rattle.std.proofs.Common.{◌∙◌, ap, length, length-take, arith}
use Rattle.wy_term.specs.Condition.{condition_of}
use Rattle.wy_cert.specs.Steps.{steps_of}
use Rattle.wy_vc_laws.specs.wy_check_spec.valid.Validity.{first_bad}
use Rattle.wy_check.proofs.WalkLemmas.{answers_valid}
use Rattle.wy_check.proofs.checking.check.Goals as goal

pub returns-clause-valid : goal.returns-clause-valid
returns-clause-valid c = answers_valid c.walked-answer.result (first_bad (condition_of c.args.terms.now c.args.cond.now) (steps_of c.args.cert.now)) c.walked-answer.ensures.value

pub returns-clause-length : goal.returns-clause-length
returns-clause-length c =
    let grown = c.walked-answer.ensures.stays.grows in
    let cut = ap length c.back_to.ensures.value in
    omega (arith, grown, cut, c.mark-mark.ensures.value, length-take c.mark-mark.result c.walked-answer.new.terms)

pub returns-clause-kept : goal.returns-clause-kept
returns-clause-kept c = λ t lt. c.back_to.ensures.kept t (omega (arith, lt, c.mark-mark.ensures.value)) ∙ c.walked-answer.ensures.stays.trees t lt
