-- What does the command `run` come to before the machine? A start, or why there is none.
use Rattle.std.specs.Prelude.{◌≡◌, ◌≢◌, ◌++◌, ℕ, List, [], Bool, true, false, codes}
use Rattle.wy_top.specs.Acceptance.{Acceptance, accepts_file}
use Rattle.wy_top_probe.specs.wy_top_answers.Calls.{Faults, called}
use Rattle.wy_top_probe.specs.wy_top_answers.Steps.{Came, Sense, Setting, and_then}
use Rattle.wy_core.specs.CoreTree.{Core}
use Rattle.wy_top_probe.specs.wy_top_answers.report.Lines.{bad_argument, no_entry, other_count, other_type, requires_fails, turns_spent}
use Rattle.wy_top_probe.specs.wy_mach_run.Starting.{IsRefused, Starts}
use Rattle.wy_top_probe.specs.wy_mach_run.declared.fault.StartFault.{StartFault}
use Rattle.wy_top_probe.specs.wy_mach_run.declared.fault.StartFault.TheVariants.{NoEntry, Argument, OtherCount, OtherType, RequiresFails, TurnsSpent, NoMemory}
use Rattle.wy_value.specs.declared.fault.ValueFault.{ValueFault}
use Rattle.wy_value.specs.declared.fault.ValueFault.TheVariants as text
use Rattle.wy_top.specs.declared.launching.Launch.{Launch}

-- the line for a fault of the argument text
abbrev pub text_line : ValueFault → List ℕ
text_line (text.Shape at) = bad_argument (codes "Shape") at
text_line (text.Range at) = bad_argument (codes "Range") at
text_line (text.Deep at) = bad_argument (codes "Deep") at
text_line text.NoMemory = []

-- the line of why there is no run of the entry with this name
abbrev pub fault_line : List ℕ → StartFault → List ℕ
fault_line name NoEntry = no_entry name
fault_line name (Argument fault) = text_line fault
fault_line name (OtherCount count) = other_count name count
fault_line name (OtherType number) = other_type number
fault_line name (RequiresFails number) = requires_fails number
fault_line name TurnsSpent = turns_spent
fault_line name NoMemory = []

abbrev pub fault_status : StartFault → ℕ
fault_status NoEntry = 7
fault_status (Argument fault) = 7
fault_status (OtherCount count) = 7
fault_status (OtherType number) = 7
fault_status (RequiresFails number) = 7
fault_status TurnsSpent = 11
fault_status NoMemory = 9

abbrev pub lacks_memory : StartFault → Bool
lacks_memory NoEntry = false
lacks_memory (Argument fault) = false
lacks_memory (OtherCount count) = false
lacks_memory (OtherType number) = false
lacks_memory (RequiresFails number) = false
lacks_memory TurnsSpent = false
lacks_memory NoMemory = true

-- why there is no run, behind these lines
abbrev pub start_faults : List ℕ → List ℕ → Faults StartFault
start_faults lines name = record { lacks_memory = lacks_memory; status = fault_status; lines = λ f. lines ++ fault_line name f }

-- the words are refused so, and it isn't want of memory
pub record IsStopped (core : Core ℕ) (name arguments : List ℕ) (f : StartFault) : Type 0 where
  pub known : f ≢ NoMemory
  pub refused : IsRefused core name arguments f

-- the words start the program so, and these lines come first
pub record IsLaunched (lines : List ℕ) (core : Core ℕ) (name arguments : List ℕ) (l : Launch) : Type 0 where
  pub lines_are : l.lines ≡ lines
  pub starts : Starts core name arguments l.start

-- an accepted program starts exactly where the words name an entry and spell arguments that meet it
abbrev pub starts : List ℕ → List ℕ → Acceptance → Sense → Came Launch → Type 0
starts name arguments a = called (λ m l. IsLaunched a.lines a.program.core name arguments l) (start_faults a.lines name) (λ m f. IsStopped a.program.core name arguments f)

-- the order of a run: the source, its conditions, the certificates, the verdicts, the entry, the argument text, the arguments
abbrev pub run_steps : Setting → List ℕ → List ℕ → List ℕ → List ℕ → ℕ → Sense → Came Launch → Type 0
run_steps s source cert name arguments budget = and_then (accepts_file s source cert budget) (λ a. starts name arguments a)
