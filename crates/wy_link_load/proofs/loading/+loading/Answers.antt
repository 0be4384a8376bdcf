use Rattle.std.proofs.Common.{◌≡◌, ◌∙◌, ◌-◌, ℕ, List, Ok, Err, ap}
use Rattle.wy_top_answers.specs.Steps.{came}
use Rattle.wy_top_answers.proofs.DuringLemmas.{during_first, during_second}
use Rattle.wy_top_answers.proofs.StepLemmas.{ends_there, goes, memory_gives}
use Rattle.wy_link_load.specs.Files.{reads}
use Rattle.wy_link_load.specs.Imports.{import_file, import_of}
use Rattle.wy_link_load.specs.Loading.{finished_in, loads_around, loads_file}
use Rattle.wy_link_load.specs.declared.file.SourceFile.{SourceFile}
use Rattle.wy_link_load.specs.declared.importing.Import.TheVariants.{New}
use Rattle.wy_link_load.proofs.WalkLemmas.{around_gives, around_stops, follows_as, inside_as, loads_next, loads_one, loads_stop}
use Rattle.wy_link_load.proofs.loading.+loading.Goals as goal

-- ---- a file

pub load_file-returns-in-Err-clause-gives : goal.load_file-returns-in-Err-clause-gives
load_file-returns-in-Err-clause-gives g t c = λ s during.
    let stack = c.args.loading.stack in
    loads_one s c.args.room stack c.args.name c.args.loading.finished (Err c.in-Err.answer) c.requires.room
    (ends_there s (reads s c.args.name) (loads_around (loads_file (c.args.room - 1) s) (c.args.room - 1) stack c.args.loading.finished) c.in-Err.answer (c.in-Err.ensures.gives s during))

pub load_file-returns-in-Err-opened-clause-gives : goal.load_file-returns-in-Err-opened-clause-gives
load_file-returns-in-Err-opened-clause-gives g t c = λ s during. memory_gives s (loads_file c.args.room s c.args.loading.stack c.args.name c.args.loading.finished) c.in-Err-opened.answer c.in-Err-opened.ensures.memory

pub load_file-returns-in-Ok-load_imports-clause-gives : goal.load_file-returns-in-Ok-load_imports-clause-gives
load_file-returns-in-Ok-load_imports-clause-gives g t c = λ s during.
    let stack = c.args.loading.stack in
    let room = c.args.room - 1 in
    let file = c.in-Ok.file in
    let begun = c.in-Ok-opened.inside in
    let after = c.in-Ok-load_imports.inside in
    let first = during_first s _ _ _ _ _ _ _ during c.in-Ok.ensures.load_count c.in-Ok-load_imports.ensures.load_count c.in-Ok.ensures.miss_count c.in-Ok-load_imports.ensures.miss_count in
    let second = during_second s _ _ _ _ _ _ _ _ during c.in-Ok.ensures.kept c.in-Ok.ensures.load_count c.in-Ok-load_imports.ensures.load_count c.in-Ok.ensures.miss_count c.in-Ok-load_imports.ensures.miss_count in
    let inside = inside_as s room stack begun.stack c.args.loading.finished begun.finished file (Ok after.finished) c.in-Ok-opened.ensures.stack c.in-Ok-opened.ensures.finished (c.in-Ok-load_imports.ensures.gives s second) in
    loads_one s c.args.room stack c.args.name c.args.loading.finished (came finished_in c.closed.result) c.requires.room
    (goes s (reads s c.args.name) (loads_around (loads_file room s) room stack c.args.loading.finished) file (came finished_in c.closed.result) (c.in-Ok.ensures.gives s first)
    (around_gives s room stack c.args.loading.finished after.finished file c.closed.result inside c.closed.ensures.finished c.closed.ensures.memory))

pub load_file-returns-in-Ok-load_imports-clause-stack : goal.load_file-returns-in-Ok-load_imports-clause-stack
load_file-returns-in-Ok-load_imports-clause-stack g t c = c.closed.ensures.stack c.args.loading.stack c.in-Ok.file.name (c.in-Ok-load_imports.ensures.stack ∙ c.in-Ok-opened.ensures.stack)

pub load_file-returns-in-Err-load_imports-clause-gives : goal.load_file-returns-in-Err-load_imports-clause-gives
load_file-returns-in-Err-load_imports-clause-gives g t c = λ s during.
    let stack = c.args.loading.stack in
    let room = c.args.room - 1 in
    let file = c.in-Ok.file in
    let begun = c.in-Ok-opened.inside in
    let answer = c.in-Err-load_imports.answer in
    let first = during_first s _ _ _ _ _ _ _ during c.in-Ok.ensures.load_count c.in-Err-load_imports.ensures.load_count c.in-Ok.ensures.miss_count c.in-Err-load_imports.ensures.miss_count in
    let second = during_second s _ _ _ _ _ _ _ _ during c.in-Ok.ensures.kept c.in-Ok.ensures.load_count c.in-Err-load_imports.ensures.load_count c.in-Ok.ensures.miss_count c.in-Err-load_imports.ensures.miss_count in
    let inside = inside_as s room stack begun.stack c.args.loading.finished begun.finished file (Err answer) c.in-Ok-opened.ensures.stack c.in-Ok-opened.ensures.finished (c.in-Err-load_imports.ensures.gives s second) in
    loads_one s c.args.room stack c.args.name c.args.loading.finished (Err answer) c.requires.room
    (goes s (reads s c.args.name) (loads_around (loads_file room s) room stack c.args.loading.finished) file (Err answer) (c.in-Ok.ensures.gives s first) (around_stops s room stack c.args.loading.finished file answer inside))

-- ---- imports

pub load_imports-returns-in-Ok-clause-gives : goal.load_imports-returns-in-Ok-clause-gives
load_imports-returns-in-Ok-clause-gives g t c = λ s during.
    let after = c.in-Ok.loading in
    let first = during_first s _ _ _ _ _ _ _ during c.in-Ok.ensures.load_count c.load_imports.ensures.load_count c.in-Ok.ensures.miss_count c.load_imports.ensures.miss_count in
    let second = during_second s _ _ _ _ _ _ _ _ during c.in-Ok.ensures.kept c.in-Ok.ensures.load_count c.load_imports.ensures.load_count c.in-Ok.ensures.miss_count c.load_imports.ensures.miss_count in
    loads_next s c.args.room c.args.loading.stack after.stack c.args.file.now c.as_slice-imports.result.now c.args.file.now.program.imports c.args.next c.index-imports-next.result c.args.loading.finished after.finished (came finished_in c.load_imports.result)
    c.as_slice-imports.ensures c.if-next-imports.false c.index-imports-next.is c.in-Ok.ensures.stack (c.in-Ok.ensures.gives s first) (c.load_imports.ensures.gives s second)

pub load_imports-returns-in-Err-clause-gives : goal.load_imports-returns-in-Err-clause-gives
load_imports-returns-in-Err-clause-gives g t c = λ s during.
    loads_stop s (loads_file c.args.room s c.args.loading.stack) c.args.room c.args.loading.stack c.args.file.now c.as_slice-imports.result.now c.args.file.now.program.imports c.args.next c.index-imports-next.result c.args.loading.finished c.in-Err.answer
    c.as_slice-imports.ensures c.if-next-imports.false c.index-imports-next.is (c.in-Err.ensures.gives s during)

pub load_import-returns-in-New-clause-gives : goal.load_import-returns-in-New-clause-gives
load_import-returns-in-New-clause-gives g t c = λ s during.
    let stack = c.args.loading.stack in
    let finished = c.args.loading.finished in
    let import = c.args.import.now in
    let named : c.in-Ok.target ≡ import_file c.args.file.now.name import.0 =
    c.in-Ok.ensures.value ∙ (ap (λ (n : List ℕ). import_file n c.as_str-2.result.now) c.as_str.ensures.value ∙ ap (λ (n : List ℕ). import_file c.args.file.now.name n) c.as_str-2.ensures.value) in
    let is : New ≡ import_of c.args.room stack finished c.args.earlier.now import.0 c.in-Ok.target =
    c.in-New.ensures.value ∙ (ap (λ (st : List (List ℕ)). import_of c.args.room st c.as_slice-2.result.now c.args.earlier.now import.0 c.in-Ok.target) c.as_slice.ensures
    ∙ ap (λ (fs : List SourceFile). import_of c.args.room stack fs c.args.earlier.now import.0 c.in-Ok.target) c.as_slice-2.ensures) in
    follows_as s (loads_file c.args.room s stack) c.args.room stack c.args.file.now c.args.earlier.now import finished c.in-Ok.target New (came finished_in c.load_file.result) named is (c.load_file.ensures.gives s during)
