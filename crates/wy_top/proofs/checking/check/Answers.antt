use Rattle.std.proofs.Common.{◌≡◌, ◌⊎◌, inl, inr, sym, subst}
use Rattle.wy_top_probe.specs.wy_top_answers.Steps.{Answers, Setting, done, Gives}
use Rattle.wy_top_probe.specs.wy_top_answers.declared.answer.Answer.{Answer}
use Rattle.wy_top_probe.specs.wy_top_answers.Answers.{no_memory}
use Rattle.wy_top_probe.proofs.wy_top_answers_proofs.AnswerLemmas.{ends_answers, value_answers, memory_answers}
use Rattle.wy_top.specs.Acceptance.{Acceptance, accepts_file, check_steps, checked_answer}
use Rattle.wy_top.specs.Kept.{acceptance_in}
use Rattle.wy_top.proofs.checking.check.Goals as goal
use Rattle.std.proofs.Common.{Ok, ℕ, List}

by_line : (s : Setting) (name cert : List ℕ) (budget : ℕ) (a : Acceptance) (answer : Answer) → Gives s (accepts_file s name cert budget) (Ok a) → (answer ≡ checked_answer a) ⊎ (answer ≡ no_memory) → Answers s (check_steps s name cert budget) answer
by_line s name cert budget a answer g (inl e) = subst (Answers s (check_steps s name cert budget)) (sym e) (value_answers s (accepts_file s name cert budget) checked_answer a g)
by_line s name cert budget a answer g (inr e) = memory_answers s (check_steps s name cert budget) answer e

pub returns-in-Ok-clause-answers : goal.returns-in-Ok-clause-answers
returns-in-Ok-clause-answers g c = λ s during.
    by_line s c.args.name.now c.args.cert.now c.args.budget (acceptance_in c.in-Ok.accepted) c.answer_of.result (c.in-Ok.ensures.gives s during) c.answer_of.ensures.value

pub returns-in-Err-clause-answers : goal.returns-in-Err-clause-answers
returns-in-Err-clause-answers g c = λ s during.
    ends_answers s (accepts_file s c.args.name.now c.args.cert.now c.args.budget) (λ a. done (checked_answer a)) c.in-Err.answer (c.in-Err.ensures.gives s during)
