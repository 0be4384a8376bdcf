-- Where a condition that the search finds is answered by a certificate.
use Rattle.std.specs.Prelude.{◌≡◌, ℕ, List, Option, Some, None}
use Rattle.wy_term.specs.Condition.{Condition}
use Rattle.wy_term.specs.Unfolding.{AreClosed}
use Rattle.wy_cert.specs.declared.step.Cert.{Cert}
use Rattle.wy_cert.specs.Steps.{Written, steps_of}
use Rattle.wy_prove_rounds.specs.wy_check_spec.valid.Validity.{IsValid}
use Rattle.wy_prove_leaves.specs.wy_search_spec.Tree.{found, IsVerdict}
use Rattle.wy_prove_writable.specs.wy_check_laws.sound.Sortedness.{IsSortedCondition, AreSortedSteps}
use Rattle.wy_prove_leaves.specs.wy_search_laws.rounds.Leaves.{IsFoldedCondition}
use Rattle.wy_prove_writable.specs.Writable.{AreWritable}

-- the condition's formulas are sorted and folded, and its named types closed, as those of programs are
pub record IsFormedThroughout (c : Condition) : Type 0 where
  pub sorted : IsSortedCondition c
  pub closed : AreClosed c.types
  pub folded : IsFoldedCondition c

-- the search finds the condition within the budget
abbrev pub IsFoundWithin : Condition → ℕ → Type 0
IsFoundWithin c budget = (leaves : ℕ) × IsVerdict c budget (found leaves)

-- a certificate that is valid and of terms of sorted parts can't be written
pub record HasUnwritable (c : Condition) : Type 0 where
  pub steps : List Written
  pub valid : IsValid c steps
  pub sorted : AreSortedSteps steps
  pub unwritable : AreWritable steps → ⊥

-- there is a certificate exactly where the search finds, or the one that was made can't be written
abbrev pub AnswersWhatIsFound : Condition → ℕ → Option Cert → Type 0
AnswersWhatIsFound c budget None = IsFoundWithin c budget → HasUnwritable c
AnswersWhatIsFound c budget (Some cert) = IsFoundWithin c budget

-- it is this certificate, which can be written; or that can't be
abbrev pub IsItIfWritable : Cert → Option Cert → Type 0
IsItIfWritable cert None = AreWritable (steps_of cert) → ⊥
IsItIfWritable cert (Some same) = (same ≡ cert) × AreWritable (steps_of cert)
