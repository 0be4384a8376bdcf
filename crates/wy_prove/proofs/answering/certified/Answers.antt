use Rattle.std.proofs.Common.{◌∙◌, ap, length, length-take, arith}
use Rattle.wy_prove.proofs.answering.certified.Goals as goal

pub returns-clause-length : goal.returns-clause-length
returns-clause-length c =
    let grown = c.found-answer.ensures.stays.grows in
    let cut = ap length c.back_to.ensures.value in
    omega (arith, grown, cut, c.mark-mark.ensures.value, length-take c.mark-mark.result c.found-answer.new.terms)

pub returns-clause-kept : goal.returns-clause-kept
returns-clause-kept c = λ t lt. c.back_to.ensures.kept t (omega (arith, lt, c.mark-mark.ensures.value)) ∙ c.found-answer.ensures.stays.trees t lt
