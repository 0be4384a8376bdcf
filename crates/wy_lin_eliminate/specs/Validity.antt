-- When steps of a certificate refute forms that are all to be at least 0.
use Rattle.std.specs.Prelude.{◌≡◌, ℕ, ◌%◌, List, [], ◌∷◌, ◌++◌, length, All, nat_eq, nat_lt, ◌==◌, Bool, true, false, ◌&&◌, ℤ, pos, unsigned_abs, int_lt, Option, Some, None}
use Rattle.wy_lin.specs.declared.arithmetic.Factor.TheVariants.{Times}
use Rattle.wy_lin.specs.Linear.{Linear, nothing, plus}
use Rattle.wy_lin.specs.Combination.{combined}
use Rattle.wy_lin_eliminate.specs.declared.steps.LinStep.{LinStep}
use Rattle.wy_lin_eliminate.specs.declared.steps.LinStep.TheVariants.{Sum, Cut}
use Rattle.wy_lin_eliminate.specs.declared.steps.Elim.TheVariants.{Refuted}
use Rattle.wy_lin_eliminate.specs.declared.steps.Steps.{Steps}
use Rattle.wy_lin_eliminate.specs.Division.{lowered}
use Rattle.wy_lin_eliminate.specs.Elimination.{elimination}

-- each multiplier is at least 1, and stands at the place of one of n forms
abbrev pub are_named : ℕ → List (ℕ × ℕ) → Bool
are_named n [] = true
are_named n (m ∷ ms) = (nat_lt 0 m.0 && nat_lt m.1 n) && are_named n ms

-- every coefficient is a multiple
abbrev pub divides : ℕ → List (ℤ × ℕ) → Bool
divides d [] = true
divides d (p ∷ ps) = (unsigned_abs p.0 % d == 0) && divides d ps

-- no coefficient but 0 is there
abbrev pub is_bare : List (ℤ × ℕ) → Bool
is_bare [] = true
is_bare (p ∷ ps) = (unsigned_abs p.0 == 0) && is_bare ps

-- the sum is there, and is a negative constant
abbrev pub is_refuted : Option (Linear ℕ) → Bool
is_refuted None = false
is_refuted (Some f) = is_bare f.parts && int_lt f.constant (pos 0)

-- the sum is there, the divisor divides its coefficients, and with the divided form so
abbrev pub is_divided : ℕ → Option (Linear ℕ) → (Linear ℕ → Bool) → Bool
is_divided d None rest = false
is_divided d (Some f) rest = divides d f.parts && rest (lowered d f)

abbrev pub is_end : List LinStep → Bool
is_end [] = true
is_end (step ∷ steps) = false

-- the steps are valid over these forms, and the last one refutes
abbrev pub refute : List (Linear ℕ) → List LinStep → Bool
refute all [] = false
refute all (Sum ms ∷ steps) = is_end steps && (are_named (length all) ms && is_refuted (combined all ms))
refute all (Cut d ms ∷ steps) = (nat_lt 1 d && are_named (length all) ms) && is_divided d (combined all ms) (λ f. refute (all ++ f ∷ []) steps)

-- the form is its own sum, taken once: its numbers fit, and no variable stands in two parts
abbrev pub IsPlain : Linear ℕ → Type 0
IsPlain f = plus nat_eq nothing (Times 1) f ≡ Some f

-- where elimination refutes such forms, its steps are valid over them
abbrev pub StepsRefute : List (Linear ℕ) → Type 0
StepsRefute forms = All IsPlain forms → (steps : Steps) → elimination forms ≡ Refuted steps → refute forms steps.list ≡ true
