-- Small answers, as what a turn answers.
use Rattle.std.proofs.Common.{◌≡◌, refl}
use Rattle.std.specs.Prelude.{IfOk}
use Rattle.wy_mach.specs.declared.machine.Turn.{Turn}
use Rattle.wy_mach.specs.declared.machine.Turn.TheVariants as turn
use Rattle.wy_mach.specs.declared.machine.Pace.{Pace}
use Rattle.wy_mach.specs.declared.machine.Pace.TheVariants as pace
use Rattle.wy_mach.specs.Pacing.{turn_of}

-- what is so where an instruction went is so where the turn did
pub went_so : (p : Pace) (P : Type 0) → (p ≡ pace.Went → P) → IfOk (turn_of p) (λ (t : Turn). t ≡ turn.Went → P)
went_so pace.Went P f = λ w. f refl
went_so pace.OutFault P f = λ no. absurd (cc)
went_so pace.Stuck P f = λ no. absurd (cc)
went_so pace.NoMemory P f = tt
