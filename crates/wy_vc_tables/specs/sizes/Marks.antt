-- Marks of names.
use Rattle.std.specs.Prelude.{ℕ, List, Bool, false, slice_index_or}

-- whether a name is marked; one without a mark isn't
abbrev pub mark_at : List Bool → ℕ → Bool
mark_at marks n = slice_index_or marks n false
