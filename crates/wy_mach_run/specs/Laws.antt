-- At most one start and at most one refusal comes of words.
use Rattle.std.specs.Prelude.{◌≡◌, ◌≢◌, ℕ, List}
use Rattle.wy_core.specs.CoreTree.{Core}
use Rattle.wy_mach_run.specs.Starting.{Starts, IsRefused}
use Rattle.wy_mach_run.specs.declared.parts.Start.{Start}
use Rattle.wy_mach_run.specs.declared.fault.StartFault.{StartFault}
use Rattle.wy_mach_run.specs.declared.fault.StartFault.TheVariants.{NoMemory}

-- words start a program in one way
abbrev pub HaveOneStart : Type 0
HaveOneStart = (core : Core ℕ) (name arguments : List ℕ) (s t : Start) → Starts core name arguments s → Starts core name arguments t → s ≡ t

-- words are refused for one reason, want of memory aside
abbrev pub HaveOneRefusal : Type 0
HaveOneRefusal = (core : Core ℕ) (name arguments : List ℕ) (e f : StartFault) → e ≢ NoMemory → f ≢ NoMemory → IsRefused core name arguments e → IsRefused core name arguments f → e ≡ f

-- words that start a program are refused for no reason but want of memory
abbrev pub StartOrRefuse : Type 0
StartOrRefuse = (core : Core ℕ) (name arguments : List ℕ) (s : Start) (e : StartFault) → e ≢ NoMemory → Starts core name arguments s → IsRefused core name arguments e → ⊥
