-- What does a step come to that is one call, which answers a value or a fault?
use Rattle.std.specs.Prelude.{◌≡◌, ℕ, List, Bool, true, false, Ok, Err}
use Rattle.wy_top_answers.specs.Answers.{refused, no_memory, IsRefusal}
use Rattle.wy_top_answers.specs.Steps.{Came, Sense}
use Rattle.wy_top_answers.specs.declared.answer.Answer.{Answer}

-- a kind of faults: which of them are want of memory, and the status and the lines of each other one
pub record Faults (F : Type 0) : Type 0 where
  pub lacks_memory : F → Bool
  pub status : F → ℕ
  pub lines : F → List ℕ

-- there is a fault, other than want of memory, and its lines are the answer
pub record IsFaulted {F : Type 0} (faults : Faults F) (there : F → Type 0) (a : Answer) : Type 0 where
  pub fault : F
  pub cause : there fault
  pub known : faults.lacks_memory fault ≡ false
  pub answer : a ≡ refused (faults.status fault) (faults.lines fault)

-- the call comes to a value, or to the answer of a fault
abbrev pub called : {X F : Type 0} → (Sense → X → Type 0) → Faults F → (Sense → F → Type 0) → Sense → Came X → Type 0
called value faults there m (Ok x) = value m x
called value faults there m (Err a) = IsFaulted faults (there m) a

-- the answer to a fault, where it is want of memory or not: its lines, or none for want of memory
abbrev pub AnswersFault : Bool → ℕ → List ℕ → Answer → Type 0
AnswersFault true status lines a = a ≡ no_memory
AnswersFault false status lines a = IsRefusal status lines a
