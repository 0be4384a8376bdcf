-- What does a probe show of the program of a source?
use Rattle.std.specs.Prelude.{◌≡◌, ◌⊎◌, ℕ, List}
use Rattle.wy_core.specs.CoreTree.{Core, Routine}
use Rattle.wy_core.specs.Types.{Ty}
use Rattle.wy_term.specs.declared.cond.CondKind.{CondKind}
use Rattle.wy_value.specs.Datum.{Datum}
use Rattle.wy_top.specs.wy_link_load.Alone.{IsAlone}
use Rattle.wy_top.specs.wy_mach_run.Entries.{IsEntry}
use Rattle.wy_top.specs.wy_probe.Comes.{probe_of}
use Rattle.wy_top.specs.wy_probe.Trials.{Faulted, FindsFirst}
use Rattle.wy_top.specs.wy_top_answers.Showing.{ShowsWhole, Sinks}
use Rattle.wy_top.specs.wy_top_answers.Steps.{IsTold, Setting}
use Rattle.wy_top.specs.wy_top_answers.declared.answer.Answer.{Answer}
use Rattle.wy_top.specs.wy_top_source.Sources.{IsProgram}
use Rattle.wy_top.specs.Acceptance.{Acceptance}
use Rattle.wy_top.specs.wy_top_probe.Probing.{found_answer, probe_steps}
use Rattle.wy_top.specs.Statement.{IsAnswered}
use Rattle.wy_headline.specs.Accepted.{AcceptsBytes, IsCutShort}

-- The bytes are a typed and assigned program with a function or method of this name. One of its first so many tuples, not undecided, meets the precondition, and the value semantics faults on it within so many ticks: this is the first such tuple.
pub record Faults (bytes name : List ℕ) (tuples ticks : ℕ) : Type 0 where
  pub core : Core ℕ
  pub flow : List Ty
  pub program : IsProgram bytes core flow
  pub entry : ℕ
  pub routine : Routine ℕ
  pub named : IsEntry core name entry routine
  pub number : ℕ
  pub values : List Datum
  pub kind : CondKind
  pub at : ℕ
  pub finds : FindsFirst (probe_of core entry ticks) tuples (Faulted number values kind at)

-- the answer with its line
abbrev pub answer_of : (bytes name : List ℕ) (tuples ticks : ℕ) → Faults bytes name tuples ticks → Answer
answer_of bytes name tuples ticks f = found_answer bytes (Faulted f.number f.values f.kind f.at)

-- whatever the files, with no certificates and no budget is the program of these bytes accepted
abbrev pub IsNeverAccepted : List ℕ → Type 0
IsNeverAccepted bytes = (s : Setting) (cert : List ℕ) (budget : ℕ) (a : Acceptance) → AcceptsBytes s cert budget bytes a → ⊥

-- the source in this file imports nothing and faults so, the line of the fault is shown, and it is never accepted
pub record FaultsIn (s : Setting) (source name : List ℕ) (tuples ticks : ℕ) (status : ℕ) (k : Sinks) : Type 0 where
  pub bytes : List ℕ
  pub alone : IsAlone s source bytes
  pub faults : Faults bytes name tuples ticks
  pub shown : ShowsWhole (answer_of bytes name tuples ticks faults) status k
  pub never : IsNeverAccepted bytes

-- Status 12 comes where the source faults so; and where the file is told it is what comes then, its line whole, unless it is cut short.
pub record MeansProbe (s : Setting) (source name : List ℕ) (tuples ticks : ℕ) (status : ℕ) (k : Sinks) : Type 0 where
  pub faults : status ≡ 12 → FaultsIn s source name tuples ticks status k
  pub is_due : IsTold s source → (bytes : List ℕ) → IsAlone s source bytes → (f : Faults bytes name tuples ticks) → ShowsWhole (answer_of bytes name tuples ticks f) status k ⊎ IsCutShort s status k

abbrev pub ProbesAreRight : Type 0
ProbesAreRight = (s : Setting) (source name : List ℕ) (tuples ticks : ℕ) (status : ℕ) (k : Sinks)
    → IsAnswered s (probe_steps s source name tuples ticks) status k → MeansProbe s source name tuples ticks status k
