-- What does the command `big` come to?
use Rattle.std.specs.Prelude.{◌≡◌, ◌⊎◌, ◌++◌, ◌≤◌, ℕ, List, length, Err}
use Rattle.wy_top.specs.wy_top_answers.Answers.{refused, written as writes}
use Rattle.wy_top.specs.wy_top_answers.Loading.{source_limit}
use Rattle.wy_top.specs.wy_top_answers.Showing.{Shown, ShowsWhole, Sinks}
use Rattle.wy_top.specs.wy_top_answers.Steps.{Came, IsOutside, Sense, Setting, and_then, stated}
use Rattle.wy_top.specs.wy_top_answers.declared.answer.Answer.{Answer}
use Rattle.wy_top_big.specs.Source.{argument_text, entry, source_of}
use Rattle.wy_top.specs.wy_eval_exprs.Settings.{here}
use Rattle.wy_top.specs.wy_top_answers.report.Lines.{steps_spent}
use Rattle.wy_top.specs.wy_mach_run.sound.Runs.{GoesOn}
use Rattle.wy_top.specs.wy_top_answers.supplied.Certificates.{no_file}
use Rattle.wy_top.specs.Acceptance.{Acceptance, accepts_source}
use Rattle.wy_top.specs.Large.{big_steps, head, large_name, makes}
use Rattle.wy_top.specs.Launching.{starts}
use Rattle.wy_top.specs.Programs.{count_of}
use Rattle.wy_top.specs.Statement.{IsAnswered}
use Rattle.wy_top.specs.declared.launching.Launch.{Launch}
use Rattle.wy_value.specs.Datum.{Datum}
use Rattle.wy_headline.specs.Accepted.{AcceptsBytes, IsCutShort}
use Rattle.wy_headline.specs.Runs.{Entry, IsDone, MeetsPostcondition, NeverFaults, wrote}
use Rattle.wy_headline.specs.Started.{IsStart}

-- the source that is made is accepted, and this is its entry, with its values
pub record IsLargeRun (s : Setting) (functions seed budget : ℕ) (e : Entry) : Type 0 where
  pub bytes : List ℕ
  pub made : bytes ≡ source_of functions seed
  pub within : length bytes ≤ source_limit
  pub acceptance : Acceptance
  pub accepts : AcceptsBytes s no_file budget bytes acceptance
  pub starts : IsStart acceptance.program.core entry (argument_text seed) e

-- the line with what the run writes
abbrev pub line_of : (functions conditions : ℕ) (e : Entry) (v : Datum) (output : List ℕ) → Answer
line_of functions conditions e v output = writes (head functions conditions ++ wrote e v output)

-- its answer: one line with what the run writes, where the program is done; or that the steps are spent, where it isn't done at any number of ticks for which they were enough
pub data AnswersLarge (e : Entry) (functions conditions steps : ℕ) (a : Answer) : Type 0 where
  line_written : (v : Datum) (output : List ℕ) → IsDone e v output → a ≡ line_of functions conditions e v output → AnswersLarge e functions conditions steps a
  steps_spend : (output : List ℕ) → GoesOn here e.core e.number e.values steps output → a ≡ refused 8 steps_spent → AnswersLarge e functions conditions steps a

-- the steps before the run
abbrev pub large_start : Setting → ℕ → ℕ → ℕ → Sense → Came Launch → Type 0
large_start s functions seed budget = and_then (makes functions seed) (λ bytes. and_then (accepts_source s large_name no_file budget bytes) (starts entry (argument_text seed)))

-- it ran from this entry: it never faults, its contract holds, and the answer tells what it does
pub record RanLarge (s : Setting) (functions seed budget steps : ℕ) (e : Entry) (of : IsLargeRun s functions seed budget e) (a : Answer) : Type 0 where
  pub never_faults : NeverFaults e
  pub postcondition : MeetsPostcondition e
  pub answers : AnswersLarge e functions (count_of of.acceptance.program) steps a

pub data ComesToLarge (s : Setting) (functions seed budget steps : ℕ) (a : Answer) : Type 0 where
  ran_large : (e : Entry) (of : IsLargeRun s functions seed budget e) → RanLarge s functions seed budget steps e of a → ComesToLarge s functions seed budget steps a
  -- a step before the run came to the answer, or it came from outside
  refused_large : large_start s functions seed budget stated (Err a) ⊎ IsOutside s a → ComesToLarge s functions seed budget steps a

-- what the command comes to; and the run that is due is the one that comes, unless it is cut short
pub record ShowsLarge (s : Setting) (functions seed budget steps : ℕ) (status : ℕ) (k : Sinks) : Type 0 where
  pub answer : Answer
  pub comes : ComesToLarge s functions seed budget steps answer
  pub shown : Shown answer status k
  pub is_due : (e : Entry) (of : IsLargeRun s functions seed budget e) → ((a : Answer) × RanLarge s functions seed budget steps e of a × ShowsWhole a status k) ⊎ IsCutShort s status k

abbrev pub LargeRunsAreRight : Type 0
LargeRunsAreRight = (s : Setting) (functions seed budget steps : ℕ) (status : ℕ) (k : Sinks) → IsAnswered s (big_steps s functions seed budget steps) status k → ShowsLarge s functions seed budget steps status k
