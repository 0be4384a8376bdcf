-- Declared types whose recursion passes through records or arrays.
use Rattle.std.specs.Prelude.{◌≡◌, ℕ, ◌<◌, List, [], ◌∷◌, length, Bool, true, false, ◌&&◌, Option, Some, None, slice_get}
use Rattle.wy_core.specs.Types.{Ty, NullTy, BoolTy, IntTy, AnyTy, VoidTy, RecordTy, ArrayTy, UnionTy, InterTy, NotTy, NamedTy, NormalTy}
use Rattle.wy_types.specs.Names.{Declared}

-- a declared type is of an order below the number
abbrev pub IsDeclaredBelow : ℕ → ℕ → Option Declared → Type 0
IsDeclaredBelow r j None = Unit {0}
IsDeclaredBelow r j (Some d) = r < j

-- the names that the type uses bare are of orders below the number
abbrev pub HasBareBelow : List Declared → (ℕ → ℕ) → ℕ → Ty → Type 0
HasBareBelow names order j NullTy = Unit {0}
HasBareBelow names order j BoolTy = Unit {0}
HasBareBelow names order j IntTy = Unit {0}
HasBareBelow names order j AnyTy = Unit {0}
HasBareBelow names order j VoidTy = Unit {0}
HasBareBelow names order j (RecordTy fs) = Unit {0}
HasBareBelow names order j (ArrayTy t) = Unit {0}
HasBareBelow names order j (UnionTy a b) = HasBareBelow names order j a × HasBareBelow names order j b
HasBareBelow names order j (InterTy a b) = HasBareBelow names order j a × HasBareBelow names order j b
HasBareBelow names order j (NotTy a) = HasBareBelow names order j a
HasBareBelow names order j (NamedTy n) = IsDeclaredBelow (order n) j (slice_get names n)
HasBareBelow names order j (NormalTy cs) = Unit {0}

-- each declared type has an order above those of the names that it uses bare
abbrev pub IsOrdered : List Declared → (ℕ → ℕ) → Type 0
IsOrdered names order = (n : ℕ) (d : Declared) → slice_get names n ≡ Some d → (order n < length names) × HasBareBelow names order (order n) d.ty

-- the declared types can be put in an order in which bare names go back, so their recursion passes through records or arrays
abbrev pub RecurThroughParts : List Declared → Type 0
RecurThroughParts names = (order : ℕ → ℕ) × IsOrdered names order

-- no name stands bare in the type
abbrev pub is_guarded : Ty → Bool
is_guarded NullTy = true
is_guarded BoolTy = true
is_guarded IntTy = true
is_guarded AnyTy = true
is_guarded VoidTy = true
is_guarded (RecordTy fs) = true
is_guarded (ArrayTy t) = true
is_guarded (UnionTy a b) = is_guarded a && is_guarded b
is_guarded (InterTy a b) = is_guarded a && is_guarded b
is_guarded (NotTy a) = is_guarded a
is_guarded (NamedTy n) = false
is_guarded (NormalTy cs) = true

-- so for each declared type
abbrev pub are_guarded : List Declared → Bool
are_guarded [] = true
are_guarded (d ∷ ds) = is_guarded d.ty && are_guarded ds
