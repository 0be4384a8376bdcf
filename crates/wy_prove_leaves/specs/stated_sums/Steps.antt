-- When steps of elimination refute forms, so that steps of a certificate can be made of them.
use Rattle.std.specs.Prelude.{◌≡◌, ℕ, List, [], ◌∷◌, ◌++◌, length, nat_lt, Bool, true, false, int_lt, pos, Some}
use Rattle.wy_term.specs.Condition.{Entry}
use Rattle.wy_lin.specs.Linear.{Linear}
use Rattle.wy_lin.specs.Combination.{combined}
use Rattle.wy_lin_eliminate.specs.declared.steps.LinStep.{LinStep}
use Rattle.wy_lin_eliminate.specs.declared.steps.LinStep.TheVariants.{Sum, Cut}
use Rattle.wy_lin_eliminate.specs.Division.{lowered}
use Rattle.wy_lin_eliminate.specs.Validity.{are_named, divides, is_bare}
use Rattle.wy_prove_drafts.specs.Progress.{Progress, Ends}

-- the sum of the forms with these multipliers is a negative number
pub record IsRefuting (all : List (Linear ℕ)) (ms : List (ℕ × ℕ)) : Type 0 where
  pub named : are_named (length all) ms ≡ true
  pub sum : Linear ℕ
  pub is : combined all ms ≡ Some sum
  pub bare : is_bare sum.parts ≡ true
  pub negative : int_lt sum.constant (pos 0) ≡ true

-- the number divides the coefficients of the sum, which has a variable
pub record IsCut (all : List (Linear ℕ)) (d : ℕ) (ms : List (ℕ × ℕ)) (f : Linear ℕ) : Type 0 where
  pub large : nat_lt 1 d ≡ true
  pub named : are_named (length all) ms ≡ true
  pub is : combined all ms ≡ Some f
  pub even : divides d f.parts ≡ true
  pub free : is_bare f.parts ≡ false

-- cuts, each over the forms and what the cuts before it leave, and then a sum that refutes
abbrev pub Refutes : List (Linear ℕ) → List LinStep → Type 0
Refutes all [] = ⊥
Refutes all (Sum ms ∷ steps) = IsRefuting all ms
Refutes all (Cut d ms ∷ steps) = (f : Linear ℕ) × IsCut all d ms f × Refutes (all ++ lowered d f ∷ []) steps

-- the node is closed
abbrev pub Closed : List Entry → Progress → Progress → Bool → Type 0
Closed types old new true = Ends types old new
Closed types old new false = ⊥
