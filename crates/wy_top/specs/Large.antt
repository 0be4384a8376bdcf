-- What does the command `big` come to?
use Rattle.std.specs.Prelude.{◌≡◌, ◌≤◌, ◌<◌, ◌⊎◌, ◌++◌, ℕ, List, length, codes, Ok, Err, ⊤}
use Rattle.std.specs.Fmt.{decimal}
use Rattle.wy_top.specs.Acceptance.{Acceptance, accepts_source}
use Rattle.wy_top.specs.Programs.{count_of}
use Rattle.wy_top_probe.specs.wy_top_answers.Answers.{refused, written as writes, no_memory}
use Rattle.wy_top_probe.specs.wy_top_answers.Loading.{source_limit}
use Rattle.wy_top_probe.specs.wy_top_answers.Steps.{Came, Sense, stated, due, Setting, and_then, both}
use Rattle.wy_top_probe.specs.wy_top_answers.Texts.{of_file}
use Rattle.wy_top_probe.specs.wy_top_answers.declared.answer.Answer.{Answer}
use Rattle.wy_top_big.specs.Source.{argument_text, entry, source_of}
use Rattle.wy_top_probe.specs.wy_top_answers.report.Lines.{steps_spent}
use Rattle.wy_top_probe.specs.wy_mach_run.Running.{state_of, written}
use Rattle.wy_gen_sources.specs.wy_code_spec.step.Step as step
use Rattle.wy_gen_sources.specs.wy_code_spec.step.Step.{State, Ended}
use Rattle.wy_top_probe.specs.wy_top_answers.supplied.Certificates.{no_file}
use Rattle.wy_top.specs.Launching.{starts}
use Rattle.wy_top.specs.declared.launching.Launch.{Launch}

-- the word that stands for the source in lines
abbrev pub large_name : List ℕ
large_name = codes "big"

-- the source with so many functions that is made from the number; were it longer than a file may be, it would be refused
abbrev pub makes_one : ℕ → ℕ → Came (List ℕ) → Type 0
makes_one functions seed (Ok bytes) = (bytes ≡ source_of functions seed) × (length bytes ≤ source_limit)
makes_one functions seed (Err a) = (source_limit < length (source_of functions seed)) × (a ≡ refused 10 (of_file large_name (codes "too long")))

abbrev pub makes : ℕ → ℕ → Sense → Came (List ℕ) → Type 0
makes functions seed = both (makes_one functions seed)

-- the front of the line
abbrev pub head : ℕ → ℕ → List ℕ
head functions conditions = codes "functions " ++ (decimal functions ++ (codes " conditions " ++ (decimal conditions ++ codes " result ")))

-- the line, where the run wrote this, or want of memory
abbrev pub IsLine : ℕ → ℕ → List ℕ → Answer → Type 0
IsLine functions conditions wrote a = (a ≡ writes (head functions conditions ++ wrote)) ⊎ (a ≡ no_memory)

-- The run ended: behind the front of the line stands what it writes, which is the text of the result and a line end. Or it has no end within its steps. The code lacks no step, so of that nothing is said.
abbrev pub finishes_in : ℕ → ℕ → Launch → State → Sense → Came Answer → Type 0
finishes_in functions conditions l (Ended v output) m r = r ≡ Ok (writes (head functions conditions ++ written l.start.has_result output v))
finishes_in functions conditions l (step.Runs fr callers output) m r = r ≡ Ok (refused 8 steps_spent)
finishes_in functions conditions l step.Stuck stated r = ⊤
finishes_in functions conditions l step.Stuck due r = ⊥

abbrev pub finishes : ℕ → ℕ → ℕ → Launch → Sense → Came Answer → Type 0
finishes functions conditions steps l = finishes_in functions conditions l (state_of l.start steps)

-- the accepted program is run
abbrev pub runs : ℕ → ℕ → ℕ → Acceptance → Sense → Came Answer → Type 0
runs functions seed steps a = and_then (starts entry (argument_text seed) a) (λ l. finishes functions (count_of a.program) steps l)

-- the source is accepted, by searches alone, and run
abbrev pub accepts_and_runs : Setting → ℕ → ℕ → ℕ → ℕ → List ℕ → Sense → Came Answer → Type 0
accepts_and_runs s functions seed budget steps bytes = and_then (accepts_source s large_name no_file budget bytes) (λ a. runs functions seed steps a)

-- the command `big`
abbrev pub big_steps : Setting → ℕ → ℕ → ℕ → ℕ → Sense → Came Answer → Type 0
big_steps s functions seed budget steps = and_then (makes functions seed) (λ bytes. accepts_and_runs s functions seed budget steps bytes)
