use Rattle.std.proofs.Common.{◌∙◌, ℕ, List, Ok, Err, subst}
use Rattle.wy_top_answers.specs.Steps.{Gives}
use Rattle.wy_top_answers.proofs.DuringLemmas.{during_first, during_second}
use Rattle.wy_top_answers.proofs.StepLemmas.{ends_there, goes}
use Rattle.wy_link_load.specs.Files.{reads}
use Rattle.wy_link_load.specs.Loading.{loads_behind}
use Rattle.wy_link_load.proofs.loading.load_program.Goals as goal

pub returns-in-Ok-read_file-clause-gives : goal.returns-in-Ok-read_file-clause-gives
returns-in-Ok-read_file-clause-gives g c = λ s during.
    let read = c.in-Ok-read_file in
    let first = during_first s _ _ _ _ _ _ _ during read.ensures.load_count c.load_behind.ensures.load_count read.ensures.miss_count c.load_behind.ensures.miss_count in
    let second = during_second s _ _ _ _ _ _ _ _ during read.ensures.kept read.ensures.load_count c.load_behind.ensures.load_count read.ensures.miss_count c.load_behind.ensures.miss_count in
    goes s (reads s c.args.name.now) (loads_behind s) read.source c.load_behind.result
    (subst (λ (n : List ℕ). Gives s (reads s n) (Ok read.source)) (c.new-name.ensures.value ∙ c.in-Ok.ensures.ok) (read.ensures.gives s first)) (c.load_behind.ensures.gives s second)

pub returns-in-Err-read_file-clause-gives : goal.returns-in-Err-read_file-clause-gives
returns-in-Err-read_file-clause-gives g c = λ s during.
    let answer = c.in-Err-read_file.answer in
    ends_there s (reads s c.args.name.now) (loads_behind s) answer
    (subst (λ (n : List ℕ). Gives s (reads s n) (Err answer)) (c.new-name.ensures.value ∙ c.in-Ok.ensures.ok) (c.in-Err-read_file.ensures.gives s during))
