-- Which status is never seen.
use Rattle.std.specs.Prelude.{◌≡◌, ◌≢◌, ℕ, List, [], Option, Some, None}
use Rattle.wy_top.specs.wy_top_answers.Showing.{Sinks}
use Rattle.wy_top.specs.wy_top_answers.Steps.{Setting}
use Rattle.wy_top.specs.wy_top_answers.Texts.{not_certified}
use Rattle.wy_port.specs.Taken.{with_taken}
use Rattle.wy_top.specs.Saves.{Saving}
use Rattle.wy_top.specs.Statement.{Comes}
use Rattle.wy_top_words.specs.CommandLine.{Asked, check, run, prove, conds, fmt, dis, big, probe, again, command_of}

-- where the status is 13, a condition was found and not certified: err took that line, and out nothing
abbrev pub IsNotCertified : ℕ → Sinks → Type 0
IsNotCertified status k = status ≡ 13 → (k.out_after ≡ with_taken k.out_before []) × (k.err_after ≡ with_taken k.err_before not_certified)

-- the status is 13 for that reason, in the command that makes certificates, and else never
abbrev pub IsNeverStuck : Option Asked → ℕ → Sinks → Type 0
IsNeverStuck (Some (prove source output budget)) status k = IsNotCertified status k
IsNeverStuck (Some (check source cert budget)) status k = status ≢ 13
IsNeverStuck (Some (run source cert name arguments budget steps stats)) status k = status ≢ 13
IsNeverStuck (Some (conds source)) status k = status ≢ 13
IsNeverStuck (Some (fmt source)) status k = status ≢ 13
IsNeverStuck (Some (dis source)) status k = status ≢ 13
IsNeverStuck (Some (big functions seed budget steps)) status k = status ≢ 13
IsNeverStuck (Some (probe source name tuples ticks)) status k = status ≢ 13
IsNeverStuck (Some (again source cache budget)) status k = status ≢ 13
IsNeverStuck None status k = status ≢ 13

abbrev pub NeverSticks : Type 0
NeverSticks = (words : List (List ℕ)) (s : Setting) (v : Saving) (status : ℕ) (k : Sinks) → Comes words s v status k → IsNeverStuck (command_of words) status k
