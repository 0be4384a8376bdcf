-- Arrays of copies.
use Rattle.std.specs.Prelude.{ℕ, List, [], ◌∷◌, Bool, ◌&&◌, ℤ, pos, int_le}
use Rattle.wy_value.specs.Datum.{Datum, Null, Array}
use Rattle.wy_sem.specs.Operations.{longest, copies}

-- an array can have so many items
abbrev pub is_length : ℤ → Bool
is_length z = int_le (pos 0) z && int_le z (pos longest)

-- the array of so many times the first of these
abbrev pub filled : ℕ → List Datum → Datum
filled n [] = Null
filled n (d ∷ ds) = Array (copies n d)
