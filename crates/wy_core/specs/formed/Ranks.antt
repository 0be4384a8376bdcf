-- An order of declared types in which names outside of records and arrays go back.
use Rattle.std.specs.Prelude.{◌≡◌, ◌<◌, ℕ, false, List, length, Some, slice_get}
use Rattle.wy_core.specs.CoreTree.{Alias}
use Rattle.wy_core.specs.formed.Recursion.{NamesIn}

-- each type has a number below that of all types, and above those of the types that it names outside of records and arrays
pub record Ranked (aliases : List (Alias ℕ)) : Type 0 where
  pub rank : ℕ → ℕ
  pub within : (a : ℕ) (x : Alias ℕ) → slice_get aliases a ≡ Some x → rank a < length aliases
  pub falls : (a b : ℕ) (x : Alias ℕ) → slice_get aliases a ≡ Some x → NamesIn false x.ty b → rank b < rank a
