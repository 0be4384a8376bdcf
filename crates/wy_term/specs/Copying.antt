-- Which numbers were copied already from one list of nodes to another.
use Rattle.std.specs.Prelude.{◌≡◌, ℕ, ◌<◌, List, [], ◌∷◌, length, Option, Some}
use Rattle.wy_term.specs.Nodes.{Plain, tree_at}
use Rattle.wy_term.specs.Numbers.{IsAt}

-- each number that is looked up names in the new list the tree that it is looked up by
pub record AreCopied (from to : List Plain) (lookup : ℕ → Option ℕ) : Type 0 where
  pub copied : (q r : ℕ) → lookup q ≡ Some r → (q < length from) × IsAt to r (tree_at from q)

-- these were looked up, each with this answer
abbrev pub Looked : (ℕ → Option ℕ) → List ℕ → List ℕ → Type 0
Looked lookup [] [] = Unit {0}
Looked lookup [] (r ∷ rs) = ⊥
Looked lookup (k ∷ ks) [] = ⊥
Looked lookup (k ∷ ks) (r ∷ rs) = (lookup k ≡ Some r) × Looked lookup ks rs
