use Rattle.std.proofs.Common.{◌≡◌, ◌∙◌, true, sym, subst}
use Rattle.std.proofs.lemmas.Bool.{not-true, not-false}
use Rattle.wy_canon.specs.wy_types.declared.question.Question.{Question}
use Rattle.wy_canon.specs.wy_types.Questions.{first_part}
use Rattle.wy_canon.specs.wy_types.Reach.{IsWide}
use Rattle.wy_subtype.proofs.questions.empty_in.Goals as goal

pub returns-clause-sound : goal.returns-clause-sound
returns-clause-sound c = λ yes d.
    let q = c.in_ok-ask.ensures in
    sym (q.first d true) ∙ c.in_ok-found.ensures.complete (not-true c.in_ok-found.found yes) d

pub returns-clause-complete : goal.returns-clause-complete
returns-clause-complete c = λ no.
    let q = c.in_ok-ask.ensures in
    let w = c.in_ok-found.ensures.sound (not-false c.in_ok-found.found no) in
    (w.0, sym (q.first w.0 true) ∙ w.1)

pub returns-clause-narrow : goal.returns-clause-narrow
returns-clause-narrow c = subst (λ (q : Question). IsWide q.table q.depth (first_part q) → ⊥) c.in_ok-ask.ensures.value c.in_ok-found.ensures.narrow
