use Rattle.std.proofs.Common.{ℕ, List, Ok, Err, subst}
use Rattle.wy_top_answers.specs.Loading.{loaded, source_limit}
use Rattle.wy_top_answers.specs.Steps.{Gives}
use Rattle.wy_top_answers.proofs.StepLemmas.{ends_there, goes}
use Rattle.wy_link_load.specs.Files.{spelled}
use Rattle.wy_link_load.proofs.file.read_file.Goals as goal

pub returns-in-Ok-clause-gives : goal.returns-in-Ok-clause-gives
returns-in-Ok-clause-gives g c = λ s during.
    goes s (loaded s c.args.name source_limit) (λ bytes. spelled c.args.name bytes) c.in-Ok.bytes c.spelled.result
    (subst (λ (n : List ℕ). Gives s (loaded s n source_limit) (Ok c.in-Ok.bytes)) c.as_str.ensures.value (c.in-Ok.ensures.gives s during)) (c.spelled.ensures.gives s)

pub returns-in-Err-clause-gives : goal.returns-in-Err-clause-gives
returns-in-Err-clause-gives g c = λ s during.
    ends_there s (loaded s c.args.name source_limit) (λ bytes. spelled c.args.name bytes) c.in-Err.answer
    (subst (λ (n : List ℕ). Gives s (loaded s n source_limit) (Err c.in-Err.answer)) c.as_str.ensures.value (c.in-Err.ensures.gives s during))
