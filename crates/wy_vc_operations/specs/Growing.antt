-- Lists of terms that grow, and which terms numbers name in them.
use Rattle.std.specs.Prelude.{◌≡◌, ℕ, ◌<◌, ◌≤◌, List, [], ◌∷◌, length, map, All, Option, Some, None, option_map}
use Rattle.wy_term.specs.Term.{Term}
use Rattle.wy_term.specs.Nodes.{Plain, tree_at}
use Rattle.wy_term.specs.Numbers.{IsAt}
use Rattle.wy_vc_spec.specs.Variables.{Vars}

-- what the old numbers name, they still name
pub record Kept (old new : List Plain) : Type 0 where
  pub grows : length old ≤ length new
  pub trees : (t : ℕ) → t < length old → tree_at new t ≡ tree_at old t

-- the number names this term, and what the old numbers name, they still name
pub record Makes (old new : List Plain) (made : ℕ) (tree : Term) : Type 0 where
  pub here : IsAt new made tree
  pub kept : Kept old new

-- each is a number of a term
abbrev pub AreBelow : ℕ → List ℕ → Type 0
AreBelow n ks = All (λ k. k < n) ks

-- the numbers name these terms, in order
pub record AreAt (nodes : List Plain) (ks : List ℕ) (ts : List Term) : Type 0 where
  pub within : AreBelow (length nodes) ks
  pub are : map (tree_at nodes) ks ≡ ts

abbrev pub IsSlotBelow : ℕ → Option ℕ → Type 0
IsSlotBelow n None = Unit {0}
IsSlotBelow n (Some k) = k < n

-- each slot that isn't empty has a number of a term
abbrev pub AreSlotsBelow : ℕ → List (Option ℕ) → Type 0
AreSlotsBelow n [] = Unit {0}
AreSlotsBelow n (v ∷ vs) = IsSlotBelow n v × AreSlotsBelow n vs

-- the slots name these terms, in order
pub record AreSlotsAt (nodes : List Plain) (vars : List (Option ℕ)) (slots : Vars) : Type 0 where
  pub within : AreSlotsBelow (length nodes) vars
  pub are : map (option_map (tree_at nodes)) vars ≡ slots
