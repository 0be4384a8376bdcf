-- What is a file of a program, and what does reading one come to?
use Rattle.std.specs.Prelude.{◌≡◌, ℕ, List}
use Rattle.wy_parse_front.specs.Faults as faults
use Rattle.wy_parse_front.specs.Front as front
use Rattle.wy_parse_front.specs.Places.{place_of}
use Rattle.wy_parse_front.specs.declared.fault.SourceFault.{SourceFault}
use Rattle.wy_top_answers.specs.Calls.{Faults, called}
use Rattle.wy_top_answers.specs.Loading.{loaded, source_limit}
use Rattle.wy_top_answers.specs.Steps.{Came, Sense, stated, due, Setting, and_then}
use Rattle.wy_top_answers.specs.report.Lines.{source_fault}
use Rattle.wy_link_load.specs.declared.file.SourceFile.{SourceFile}

-- the line for what stands at an offset of the file with this name and these bytes
abbrev pub fault_line : List ℕ → List ℕ → ℕ → List ℕ → List ℕ
fault_line name bytes at word = source_fault name (place_of bytes at).0 (place_of bytes at).1 word

-- the file has this name and these bytes, which spell its program
pub record IsFile (name bytes : List ℕ) (file : SourceFile) : Type 0 where
  pub named : file.name ≡ name
  pub holds : file.bytes ≡ bytes
  pub spelled : front.Spells bytes file.program

-- the line of a fault of its text
abbrev pub text_line : List ℕ → List ℕ → SourceFault → List ℕ
text_line name bytes fault = fault_line name bytes (faults.offset fault) (faults.word fault)

abbrev pub text_faults : List ℕ → List ℕ → Faults SourceFault
text_faults name bytes = record { lacks_memory = faults.is_no_memory; status = λ f. 1; lines = text_line name bytes }

abbrev pub is_faulted : List ℕ → Sense → SourceFault → Type 0
is_faulted bytes stated f = front.IsRefused bytes f
is_faulted bytes due f = front.IsDue bytes f

-- the bytes spell the program of the file; or the line of the first fault is the answer
abbrev pub spelled : List ℕ → List ℕ → Sense → Came SourceFile → Type 0
spelled name bytes = called (λ m file. IsFile name bytes file) (text_faults name bytes) (is_faulted bytes)

-- the file with this name is loaded and read
abbrev pub reads : Setting → List ℕ → Sense → Came SourceFile → Type 0
reads s name = and_then (loaded s name source_limit) (λ bytes. spelled name bytes)
