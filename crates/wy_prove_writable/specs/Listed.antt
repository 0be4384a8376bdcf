-- Which terms of a list can be written, and the same terms in another list.
use Rattle.std.specs.Prelude.{◌≡◌, ℕ, ◌<◌, ◌≤◌, ◌↔◌, List, Option, None, Some, IsSome, length, slice_index_or}
use Rattle.wy_term.specs.Term.{Term}
use Rattle.wy_term.specs.Folding.{folded}
use Rattle.wy_term.specs.Nodes.{Plain, tree_at}
use Rattle.wy_term.specs.Sorts.{sort_in}
use Rattle.wy_check_laws.specs.reread.Writable.{IsWritableAt}

-- it can be written as a term of its sort
abbrev pub CanBeWritten : Term → Type 0
CanBeWritten t = IsWritableAt (sort_in t) t

-- the number of a term in the other list, where it can be written
abbrev pub IsCopy : List Plain → Term → Option ℕ → Type 0
IsCopy again t None = CanBeWritten t → ⊥
IsCopy again t (Some n) = (n < length again) × (tree_at again n ≡ t) × CanBeWritten t

-- the same, where it is folded to itself
abbrev pub IsFoldedThere : List Plain → Term → Option ℕ → Type 0
IsFoldedThere again t None = folded t ≡ t → ⊥
IsFoldedThere again t (Some n) = (n < length again) × (tree_at again n ≡ t) × (folded t ≡ t)

-- the first terms of a list, each with its number in the other one
pub record AreCopies (nodes again : List Plain) (copies : List (Option ℕ)) : Type 0 where
  pub within : length copies ≤ length nodes
  pub each : (k : ℕ) → k < length copies → IsCopy again (tree_at nodes k) (slice_index_or copies k None)

-- these parts, each with its number in the other list
pub record ArePartsCopied (nodes again : List Plain) (parts numbers : List ℕ) : Type 0 where
  pub many : length numbers ≡ length parts
  pub each : (j : ℕ) → j < length parts → IsCopy again (tree_at nodes (slice_index_or parts j 0)) (Some (slice_index_or numbers j 0))

-- the first terms of a list: exactly those have a number that can be written
pub record TellWritable (nodes : List Plain) (copies : List (Option ℕ)) : Type 0 where
  pub within : length copies ≤ length nodes
  pub tells : (k : ℕ) → k < length copies → IsSome (slice_index_or copies k None) ↔ CanBeWritten (tree_at nodes k)
