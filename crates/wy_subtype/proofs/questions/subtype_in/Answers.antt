use Rattle.std.proofs.Common.{◌≡◌, ◌∙◌, true, sym, subst}
use Rattle.wy_canon.specs.wy_types.declared.question.Question.{Question}
use Rattle.wy_canon.specs.wy_types.Questions.{outside_part}
use Rattle.wy_canon.specs.wy_types.Reach.{IsWide}
use Rattle.wy_subtype.proofs.questions.subtype_in.Goals as goal

pub returns-clause-sound : goal.returns-clause-sound
returns-clause-sound c = λ yes d h.
    let q = c.in_ok-ask.ensures in
    sym (q.second d true) ∙ c.in_ok-yes.ensures.sound yes d (q.first d true ∙ h)

pub returns-clause-complete : goal.returns-clause-complete
returns-clause-complete c = λ no.
    let q = c.in_ok-ask.ensures in
    let w = c.in_ok-yes.ensures.complete no in
    (w.0, (sym (q.first w.0 true) ∙ w.1, sym (q.second w.0 true) ∙ w.2))

pub returns-clause-narrow : goal.returns-clause-narrow
returns-clause-narrow c = subst (λ (q : Question). IsWide q.table q.depth (outside_part q) → ⊥) c.in_ok-ask.ensures.value c.in_ok-yes.ensures.narrow
