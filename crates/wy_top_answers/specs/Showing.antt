-- What do the sinks take of an answer?
use Rattle.std.specs.Prelude.{◌≡◌, ◌⊎◌, ℕ, List, Option}
use Rattle.wy_port.specs.Count.{Rose}
use Rattle.wy_port.specs.Taken.{with_taken, TookFront}
use Rattle.wy_top_answers.specs.declared.answer.Answer.{Answer}

-- the bytes that the two sinks took and their counts of faults, before the call and after it
pub record Sinks : Type 0 where
  pub out_before : Option (List ℕ)
  pub out_after : Option (List ℕ)
  pub out_faults_before : ℕ
  pub out_faults_after : ℕ
  pub err_before : Option (List ℕ)
  pub err_after : Option (List ℕ)
  pub err_faults_before : ℕ
  pub err_faults_after : ℕ

-- what the sinks took, and their counts
abbrev pub sinks : Option (List ℕ) → Option (List ℕ) → ℕ → ℕ → Option (List ℕ) → Option (List ℕ) → ℕ → ℕ → Sinks
sinks out_before out_after out_faults_before out_faults_after err_before err_after err_faults_before err_faults_after = record {
  out_before = out_before;
  out_after = out_after;
  out_faults_before = out_faults_before;
  out_faults_after = out_faults_after;
  err_before = err_before;
  err_after = err_after;
  err_faults_before = err_faults_before;
  err_faults_after = err_faults_after;
}

-- the status is that of the answer, and the sinks took its texts whole
pub record ShowsWhole (a : Answer) (status : ℕ) (k : Sinks) : Type 0 where
  pub answer : status ≡ a.status
  pub out : k.out_after ≡ with_taken k.out_before a.out
  pub err : k.err_after ≡ with_taken k.err_before a.err

-- the status is 5: a sink counted a fault, and each took a front of its text
pub record ShowsFront (a : Answer) (status : ℕ) (k : Sinks) : Type 0 where
  pub answer : status ≡ 5
  pub fault : Rose k.out_faults_before k.out_faults_after ⊎ Rose k.err_faults_before k.err_faults_after
  pub out : TookFront k.out_before k.out_after a.out
  pub err : TookFront k.err_before k.err_after a.err

abbrev pub Shown : Answer → ℕ → Sinks → Type 0
Shown a status k = ShowsWhole a status k ⊎ ShowsFront a status k
