use Rattle.std.proofs.Common.{◌≡◌, ◌<◌, ℕ, Some}
use Rattle.std.specs.Prelude.{slice_get}
use Rattle.wy_code.specs.declared.instructions.Instr.{Instr}
use Rattle.wy_mach.specs.States.{InstrPathFits}
use Rattle.wy_mach.proofs.starting.longest_path.Given as goal

abbrev pub invariant-loop-i : goal.invariant-loop-i
invariant-loop-i l = (at : ℕ) (i : Instr) → at < l.i → slice_get l.body at ≡ Some i → InstrPathFits i l.most
