-- Code whose jumps say how far they go.
use Rattle.std.specs.Prelude.{ℕ, zero, suc, ◌+◌, List, [], ◌∷◌, ◌++◌, length}
use Rattle.wy_code.specs.declared.instructions.Instr.{Instr}
use Rattle.wy_code.specs.declared.instructions.Instr.TheVariants as instr
use Rattle.wy_code.specs.declared.pieces.steps.Step.{Step}
use Rattle.wy_code.specs.declared.pieces.steps.Step.TheVariants.{Does, GoesOn, GoesBack, GoesOnUnless}

-- ---- pieces of code

-- an instruction, and then these
abbrev pub does : Instr → List Step → List Step
does i steps = Does i ∷ steps

-- registers are released, where there are any
abbrev pub clear : List ℕ → List Step
clear [] = []
clear (r ∷ rs) = Does (instr.Clear (r ∷ rs)) ∷ []

-- what a register holds is released by way of a free one, so that it is read once more before
abbrev pub dropped : ℕ → ℕ → List Step
dropped r free = Does (instr.Move free r) ∷ clear (free ∷ [])

-- the code where the register is true
abbrev pub where_true : ℕ → List Step → List Step
where_true r [] = []
where_true r (s ∷ steps) = GoesOnUnless r (length (s ∷ steps)) ∷ s ∷ steps

-- the one code where the register is true, the other where it is false
abbrev pub fork : ℕ → List Step → List Step → List Step
fork r first [] = where_true r first
fork r first (s ∷ second) = GoesOnUnless r (length first + 1) ∷ (first ++ GoesOn (length (s ∷ second)) ∷ s ∷ second)

-- the second code of a fork, before which it is gone over, and then these
abbrev pub jumped : List Step → List Step → List Step
jumped [] old = old
jumped (s ∷ second) old = GoesOn (length (s ∷ second)) ∷ ((s ∷ second) ++ old)

-- how many steps follow the first code of a fork, where this is the second
abbrev pub over : List Step → ℕ
over [] = 0
over (s ∷ second) = suc (length (s ∷ second))

-- turns: a test whose answer comes into the register, a body where it is true, and a step back to the test
abbrev pub turns : List Step → ℕ → List Step → List Step
turns test r body = test ++ GoesOnUnless r (length body + 1) ∷ (body ++ GoesBack (length (test ++ GoesOnUnless r (length body + 1) ∷ body)) ∷ [])

-- so many registers, from one on
abbrev pub registers_from : ℕ → ℕ → List ℕ
registers_from r zero = []
registers_from r (suc n) = r ∷ registers_from (suc r) n
