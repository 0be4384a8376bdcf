use Rattle.wy_sem.proofs.MemberAnswers.{member-says}
use Rattle.wy_sem.proofs.laws.answer_by_membership.Goals as goal

pub returns : goal.returns
returns c = record { value = λ place types. member-says place types }
