-- What does the command `probe` come to?
use Rattle.std.specs.Prelude.{◌≡◌, ℕ, List, [], ◌∷◌, ◌++◌, codes, false, Ok}
use Rattle.std.specs.Fmt.{decimal}
use Rattle.wy_core.specs.CoreTree.{Core, Routine}
use Rattle.wy_core.specs.Types.{Ty}
use Rattle.wy_term.specs.Condition.{word_of}
use Rattle.wy_term.specs.declared.cond.CondKind.{CondKind}
use Rattle.wy_value.specs.Datum.{Datum}
use Rattle.wy_value.specs.Seen.{data_of}
use Rattle.wy_value.specs.Shown.{shown_items}
use Rattle.wy_link_load.specs.Alone.{loads_alone}
use Rattle.wy_link_load.specs.wy_parse_front.Places.{place_of}
use Rattle.wy_mach_run.specs.Entries.{HasNoEntry, IsEntry}
use Rattle.wy_probe.specs.Comes.{probe_of}
use Rattle.wy_probe.specs.Trials.{Finding, Faulted, Faultless, FindsFirst}
use Rattle.wy_link_load.specs.wy_top_answers.Answers.{written}
use Rattle.wy_link_load.specs.wy_top_answers.Calls.{Faults, called}
use Rattle.wy_link_load.specs.wy_top_answers.Steps.{Came, Sense, Setting, and_then, both}
use Rattle.wy_link_load.specs.wy_top_answers.declared.answer.Answer.{Answer}
use Rattle.wy_link_load.specs.wy_top_answers.report.Lines.{line, no_entry}
use Rattle.wy_top_source.specs.Sources.{IsProgram}
use Rattle.wy_top_source.specs.declared.texts.kind.Kind.TheVariants.{Listing}
use Rattle.wy_top_probe.specs.Texts.{is_faulted, source_faults}

-- ---- what is written

-- the front of the line of a fault, up to the arguments
abbrev pub fault_head : List ℕ → ℕ → ℕ → List ℕ
fault_head word row column = codes "fault " ++ (word ++ (codes " at " ++ (decimal row ++ (codes ":" ++ (decimal column ++ codes " on (")))))

-- the fault, at its place in the source, and the arguments
abbrev pub fault_line : List ℕ → List Datum → CondKind → ℕ → List ℕ
fault_line bytes vs kind at = fault_head (word_of kind) (place_of bytes at).0 (place_of bytes at).1 ++ (shown_items (data_of vs) ++ line (codes ")" ∷ []))

abbrev pub none_line : ℕ → ℕ → ℕ → List ℕ
none_line tried met undecided = line (codes "no fault: " ∷ decimal tried ∷ codes " tried, " ∷ decimal met ∷ codes " met, " ∷ decimal undecided ∷ codes " undecided" ∷ [])

-- the answer with what was found
abbrev pub found_answer : List ℕ → Finding → Answer
found_answer bytes (Faulted number vs kind at) = record { status = 12; out = fault_line bytes vs kind at; err = [] }
found_answer bytes (Faultless tried met undecided) = written (none_line tried met undecided)

-- ---- the steps

-- a typed and assigned program, with the flow types of its expressions
pub record Checked : Type 0 where
  pub core : Core ℕ
  pub flow : List Ty

abbrev pub checked : Core ℕ → List Ty → Checked
checked core flow = record { core = core; flow = flow }

-- the program of the source, or the line of its first fault
abbrev pub reads : List ℕ → List ℕ → Sense → Came Checked → Type 0
reads name bytes = called (λ m p. IsProgram bytes p.core p.flow) (source_faults name bytes) (is_faulted Listing bytes)

-- that there is no function or method of this name
abbrev pub entry_faults : List ℕ → Faults (Unit {0})
entry_faults name = record { lacks_memory = λ f. false; status = λ f. 7; lines = λ f. no_entry name }

-- the number of the function or method of this name, or that there is none
abbrev pub enters : Core ℕ → List ℕ → Sense → Came ℕ → Type 0
enters core name = called (λ m number. (r : Routine ℕ) × IsEntry core name number r) (entry_faults name) (λ m f. HasNoEntry core name)

-- what is found among the first so many tuples, each with so many ticks, is the answer
pub record IsProbed (bytes : List ℕ) (core : Core ℕ) (tuples ticks entry : ℕ) (r : Came Answer) : Type 0 where
  pub finding : Finding
  pub finds : FindsFirst (probe_of core entry ticks) tuples finding
  pub answer : r ≡ Ok (found_answer bytes finding)

abbrev pub probes : List ℕ → Core ℕ → ℕ → ℕ → ℕ → Sense → Came Answer → Type 0
probes bytes core tuples ticks entry = both (IsProbed bytes core tuples ticks entry)

-- the entry of a program that was read, and its tuples
abbrev pub then_probes : List ℕ → ℕ → ℕ → List ℕ → Checked → Sense → Came Answer → Type 0
then_probes name tuples ticks bytes p = and_then (enters p.core name) (probes bytes p.core tuples ticks)

abbrev pub probes_source : List ℕ → List ℕ → ℕ → ℕ → List ℕ → Sense → Came Answer → Type 0
probes_source source name tuples ticks bytes = and_then (reads source bytes) (then_probes name tuples ticks bytes)

-- the order of a probe: the source, its text, names, types and assignment, the entry, the tuples
abbrev pub probe_steps : Setting → List ℕ → List ℕ → ℕ → ℕ → Sense → Came Answer → Type 0
probe_steps s source name tuples ticks = and_then (loads_alone s source) (probes_source source name tuples ticks)
