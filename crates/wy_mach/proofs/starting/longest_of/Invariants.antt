use Rattle.std.proofs.Common.{◌≡◌, ◌<◌, ℕ, Some}
use Rattle.std.specs.Prelude.{slice_get}
use Rattle.wy_code.specs.declared.routines.Routine.{Routine}
use Rattle.wy_mach.specs.States.{BodyPathsFit}
use Rattle.wy_mach.proofs.starting.longest_of.Given as goal

abbrev pub invariant-loop-f : goal.invariant-loop-f
invariant-loop-f l = (f : ℕ) (r : Routine) → f < l.f → slice_get l.routines f ≡ Some r → BodyPathsFit r.body l.most
