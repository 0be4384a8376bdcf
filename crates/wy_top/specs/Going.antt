-- What is asked of runs: that they never lack a step.
use Rattle.std.specs.Prelude.{ℕ, List}
use Rattle.wy_core.specs.CoreTree.{Core}
use Rattle.wy_core.specs.Types.{Ty}
use Rattle.wy_top_probe.specs.wy_top_answers.wy_sound_terms.formed.OwedConditions.{owed_conditions}
use Rattle.wy_top_probe.specs.wy_mach_run.Running.{Goes}
use Rattle.wy_top_probe.specs.wy_mach_run.Starting.{Starts}
use Rattle.wy_top_probe.specs.wy_mach_run.declared.parts.Start.{Start}
use Rattle.wy_top_probe.specs.wy_top_answers.wy_vc_laws.shown.Certified.{AllHold}
use Rattle.wy_top_probe.specs.wy_top_source.texts.Sources.{IsProgram}

-- the run of each start of a program of a source, of which every condition is true, never lacks a step
abbrev pub AcceptedRunsGo : Type 0
AcceptedRunsGo = (bytes : List ℕ) (core : Core ℕ) (flow : List Ty) → IsProgram bytes core flow → AllHold (owed_conditions core flow) → (name arguments : List ℕ) (s : Start) → Starts core name arguments s → Goes s
