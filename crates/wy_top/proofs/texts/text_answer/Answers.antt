use Rattle.wy_top_probe.specs.wy_top_answers.Answers.{written}
use Rattle.wy_top_probe.specs.wy_top_answers.Steps.{done}
use Rattle.wy_top_probe.proofs.wy_top_answers_proofs.AnswerLemmas.{ends_answers, value_answers}
use Rattle.wy_top.specs.Texts.{text_in}
use Rattle.wy_top.proofs.texts.text_answer.Goals as goal

pub returns-in-Ok-clause-answers : goal.returns-in-Ok-clause-answers
returns-in-Ok-clause-answers g c = λ s during.
    rw (c.new-in-Ok.ensures.value, c.new.ensures.items) (value_answers s (text_in s c.args.kind c.args.name.now) written c.in-Ok.text (c.in-Ok.ensures.gives s during))

pub returns-in-Err-clause-answers : goal.returns-in-Err-clause-answers
returns-in-Err-clause-answers g c = λ s during.
    ends_answers s (text_in s c.args.kind c.args.name.now) (λ t. done (written t)) c.in-Err.answer (c.in-Err.ensures.gives s during)
