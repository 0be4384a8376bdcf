-- What does one tuple come to?
use Rattle.std.specs.Prelude.{ℕ, List, Bool, true, false}
use Rattle.wy_value.specs.Datum.{Datum}
use Rattle.wy_core.specs.CoreTree.{Core}
use Rattle.wy_probe.specs.Trials.{DoesFault, IsMet, IsUndecided, NeverFaults, Probe}
use Rattle.wy_probe.specs.declared.trials.Trial.{Trial}
use Rattle.wy_probe.specs.declared.trials.Trial.TheVariants as trial

abbrev pub probe_of : Core ℕ → ℕ → ℕ → Probe
probe_of core entry ticks = record { core = core; entry = entry; ticks = ticks }

-- the truth value says whether it is so
abbrev pub Tells : Bool → Type 0 → Type 0
Tells true P = P
Tells false P = P → ⊥

abbrev pub ComesTo : Probe → List Datum → Trial → Type 0
ComesTo p vs (trial.Faults kind at) = DoesFault p vs kind at
ComesTo p vs (trial.Passes met undecided) = NeverFaults p vs × Tells met (IsMet p vs) × Tells undecided (IsUndecided p vs)
