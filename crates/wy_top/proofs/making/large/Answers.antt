use Rattle.std.proofs.Common.{ℕ, subst}
use Rattle.wy_top_probe.specs.wy_top_answers.Steps.{Answers}
use Rattle.wy_top_probe.proofs.wy_top_answers_proofs.AnswerLemmas.{memory_answers}
use Rattle.wy_top.specs.Large.{big_steps}
use Rattle.wy_top.proofs.making.large.Goals as goal

pub returns-in-None-clause-answers : goal.returns-in-None-clause-answers
returns-in-None-clause-answers g c = λ s during. memory_answers s (big_steps s c.args.functions c.args.seed c.args.budget c.args.steps) c.no_memory.result c.no_memory.ensures.value

pub returns-in-None-narrowed-clause-answers : goal.returns-in-None-narrowed-clause-answers
returns-in-None-narrowed-clause-answers g c = λ s during. memory_answers s (big_steps s c.args.functions c.args.seed c.args.budget c.args.steps) c.no_memory-in-None-narrowed.result c.no_memory-in-None-narrowed.ensures.value

pub returns-clause-answers : goal.returns-clause-answers
returns-clause-answers g c = λ s during.
    subst (λ (n : ℕ). Answers s (big_steps s n c.args.seed c.args.budget c.args.steps) c.large_of.result) c.in-Some.ensures.value
    (subst (λ (n : ℕ). Answers s (big_steps s c.in-Some.functions n c.args.budget c.args.steps) c.large_of.result) c.in-Some-narrowed.ensures.value (c.large_of.ensures.answers s during))
