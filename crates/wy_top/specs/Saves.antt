-- What do the sinks and the file show of a save?
use Rattle.std.specs.Prelude.{◌≡◌, ◌⊎◌, ℕ, List}
use Rattle.wy_top_probe.specs.wy_top_answers.Answers.{refused, no_memory as lacks_memory}
use Rattle.wy_top_probe.specs.wy_top_answers.Showing.{Shown, Sinks}
use Rattle.wy_top_probe.specs.wy_top_answers.declared.answer.Answer.{Answer}
use Rattle.wy_port.specs.Count.{Rose}
use Rattle.wy_port.specs.Told.{Told, IsSaved}
use Rattle.wy_port.specs.Told.Told.{Unknown}
use Rattle.wy_top_probe.specs.wy_top_answers.report.Lines.{save_failed}

-- what is told of the file before and after, and the count of failed saves before and after
pub record Saving : Type 0 where
  pub told_before : Told
  pub told_after : Told
  pub faults_before : ℕ
  pub faults_after : ℕ

abbrev pub saving : Told → Told → ℕ → ℕ → Saving
saving told_before told_after faults_before faults_after = record { told_before = told_before; told_after = told_after; faults_before = faults_before; faults_after = faults_after }

-- the bytes were saved under the name, and then the answer was written; or the save failed and was counted, the name is no longer told, and its line alone was written; or memory ran out, and the file is as before
pub data Saves (name saved : List ℕ) (answer : Answer) (v : Saving) (status : ℕ) (k : Sinks) : Type 0 where
  whole : IsSaved v.told_before v.told_after saved → Shown answer status k → Saves name saved answer v status k
  failed : Rose v.faults_before v.faults_after → v.told_after ≡ Unknown → Shown (refused 5 (save_failed name)) status k ⊎ Shown lacks_memory status k → Saves name saved answer v status k
  no_memory : v.told_after ≡ v.told_before → Shown lacks_memory status k → Saves name saved answer v status k
