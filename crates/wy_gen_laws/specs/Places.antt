-- Steps that stand at a place of a routine, as the instructions that they stand for.
use Rattle.std.specs.Prelude.{◌≡◌, ◌<◌, ℕ, suc, ◌+◌, ◌-◌, List, [], ◌∷◌, Some, All, slice_get}
use Rattle.wy_code.specs.declared.instructions.Instr.{Instr}
use Rattle.wy_code.specs.declared.instructions.Instr.TheVariants as instr
use Rattle.wy_code.specs.declared.routines.Routine.{Routine}
use Rattle.wy_code.specs.declared.routines.Code.{Code}
use Rattle.wy_code.specs.declared.pieces.steps.Step.{Step}
use Rattle.wy_code.specs.declared.pieces.steps.Step.TheVariants.{Does, GoesOn, GoesBack, GoesOnUnless}
use Rattle.wy_code.specs.pieces.Placing.{registers_in}

-- they stand in the body from the instruction with this number on
abbrev pub StandAt : List Instr → ℕ → List Step → Type 0
StandAt body at [] = Unit {0}
StandAt body at (Does i ∷ steps) = (slice_get body at ≡ Some i) × StandAt body (at + 1) steps
StandAt body at (GoesOn n ∷ steps) = (slice_get body at ≡ Some (instr.Jump (suc at + n))) × StandAt body (at + 1) steps
StandAt body at (GoesBack n ∷ steps) = (slice_get body at ≡ Some (instr.Jump (at - n))) × StandAt body (at + 1) steps
StandAt body at (GoesOnUnless r n ∷ steps) = (slice_get body at ≡ Some (instr.Branch r (suc at + n))) × StandAt body (at + 1) steps

-- the routine with this number is the given one, and its frame has each register that its instructions name
pub record IsRoutine (code : Code) (f : ℕ) (r : Routine) : Type 0 where
  pub is : slice_get code.routines f ≡ Some r
  pub room : All (λ i. All (λ n. n < r.registers) (registers_in i)) r.body
