-- Which files has a program, in which order, and for which import has it none?
use Rattle.std.specs.Prelude.{◌≡◌, ℕ, zero, suc, List, [], ◌∷◌, ◌++◌, Ok, Err}
use Rattle.wy_top_answers.specs.Answers.{refused}
use Rattle.wy_top_answers.specs.Steps.{Came, Sense, Setting, and_then}
use Rattle.wy_top_answers.specs.declared.answer.Answer.{Answer}
use Rattle.wy_link_load.specs.Files.{fault_line, reads}
use Rattle.wy_link_load.specs.Imports.{import_file, import_of, word}
use Rattle.wy_link_load.specs.declared.file.SourceFile.{SourceFile}
use Rattle.wy_link_load.specs.declared.importing.Import.{Import}
use Rattle.wy_link_load.specs.declared.importing.Import.TheVariants.{Loaded, New, Refused}
use Rattle.wy_link_load.specs.declared.loading.Loading.{Loading as Kept}
use Rattle.wy_link_load.specs.declared.loading.Sources.{Sources}

-- the step comes to this value
abbrev pub comes_to : {X : Type 0} → X → Sense → Came X → Type 0
comes_to x m r = r ≡ Ok x

-- the step comes to this answer, which ends the command
abbrev pub ends_with : {X : Type 0} → Answer → Sense → Came X → Type 0
ends_with a m r = r ≡ Err a

-- the files that are finished
abbrev pub finished_in : Kept → List SourceFile
finished_in loading = loading.finished

-- the step that loads the file of a name with all that it imports, behind files that are finished, and comes to all of them
abbrev pub Load : Type 1
Load = List ℕ → List SourceFile → Sense → Came (List SourceFile) → Type 0

-- what becomes of an import at this place of a file, whose file is the target
abbrev pub follows : Load → SourceFile → ℕ → List ℕ → List SourceFile → Import → Sense → Came (List SourceFile) → Type 0
follows load file at target finished Loaded = comes_to finished
follows load file at target finished New = load target finished
follows load file at target finished (Refused fault) = ends_with (refused 1 (fault_line file.name file.bytes at (word fault)))

-- one import of a file, which imported those before, while files with these names are being loaded; there is room for so many others
abbrev pub loads_import : Load → ℕ → List (List ℕ) → SourceFile → List (List ℕ × ℕ) → List ℕ × ℕ → List SourceFile → Sense → Came (List SourceFile) → Type 0
loads_import load room stack file earlier import finished =
    follows load file import.1 (import_file file.name import.0) finished (import_of room stack finished earlier import.0 (import_file file.name import.0))

-- these imports of it, one behind the other
abbrev pub loads_imports : Load → ℕ → List (List ℕ) → SourceFile → List (List ℕ × ℕ) → List (List ℕ × ℕ) → List SourceFile → Sense → Came (List SourceFile) → Type 0
loads_imports load room stack file earlier [] finished = comes_to finished
loads_imports load room stack file earlier (import ∷ imports) finished =
    and_then (loads_import load room stack file earlier import finished) (loads_imports load room stack file (earlier ++ import ∷ []) imports)

-- the file, behind all that it imports, while files with these names are being loaded
abbrev pub loads_around : (List (List ℕ) → Load) → ℕ → List (List ℕ) → List SourceFile → SourceFile → Sense → Came (List SourceFile) → Type 0
loads_around load room stack finished file =
    and_then (loads_imports (load (stack ++ file.name ∷ [])) room (stack ++ file.name ∷ []) file [] file.program.imports finished) (λ files. comes_to (files ++ file ∷ []))

-- The file of the name, behind all that it imports. It takes one of the room for others, and there is such: an import for which there is none is refused.
unfoldable pub loads_file : ℕ → Setting → List (List ℕ) → Load
loads_file zero s stack name finished m r = ⊥
loads_file (suc room) s stack name finished m r = and_then (reads s name) (loads_around (loads_file room s) room stack finished) m r

-- what the source imports, of 63 files at most
abbrev pub loads_behind : Setting → SourceFile → Sense → Came Sources → Type 0
loads_behind s source =
    and_then (loads_imports (loads_file 63 s (source.name ∷ [])) 63 (source.name ∷ []) source [] source.program.imports []) (λ files. comes_to (record { imported = files; source = source }))

-- the files of the program whose source has this name
abbrev pub loads : Setting → List ℕ → Sense → Came Sources → Type 0
loads s name = and_then (reads s name) (loads_behind s)
