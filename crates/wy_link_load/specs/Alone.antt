-- What is taken as long as programs of several files aren't linked?
use Rattle.std.specs.Prelude.{◌≡◌, ℕ, List, [], ◌∷◌, codes, Ok}
use Rattle.wy_ast.specs.declared.declarations.Program.{Program}
use Rattle.wy_parse_front.specs.Front.{Spells}
use Rattle.wy_top_answers.specs.Answers.{refused}
use Rattle.wy_top_answers.specs.Loading.{Loads, source_limit}
use Rattle.wy_top_answers.specs.Steps.{Came, Sense, stated, Setting, and_then}
use Rattle.wy_link_load.specs.Files.{fault_line}
use Rattle.wy_link_load.specs.Loading.{comes_to, ends_with, loads}
use Rattle.wy_link_load.specs.declared.file.SourceFile.{SourceFile}

-- the source imports these
abbrev pub takes_with : SourceFile → List (List ℕ × ℕ) → Sense → Came (List ℕ) → Type 0
takes_with source [] = comes_to source.bytes
takes_with source (import ∷ imports) = ends_with (refused 1 (fault_line source.name source.bytes import.1 (codes "Unknown")))

-- a source that imports nothing is taken, and in any other the first import isn't known
abbrev pub takes : SourceFile → Sense → Came (List ℕ) → Type 0
takes source = takes_with source source.program.imports

-- the program whose source has this name is loaded, and its source imports nothing
abbrev pub loads_alone : Setting → List ℕ → Sense → Came (List ℕ) → Type 0
loads_alone s name = and_then (loads s name) (λ sources. takes sources.source)

-- the source was loaded, spells a program, and imports nothing
pub record IsAlone (s : Setting) (name bytes : List ℕ) : Type 0 where
  pub loads : Loads s name source_limit bytes
  pub program : Program
  pub spelled : Spells bytes program
  pub nothing : program.imports ≡ []

-- so is each that is taken
abbrev pub TakesWhatImportsNothing : Type 0
TakesWhatImportsNothing = (s : Setting) (name bytes : List ℕ) → loads_alone s name stated (Ok bytes) → IsAlone s name bytes
