-- Names in scope with what they stand for, in the order in which they came.
use Rattle.std.specs.Prelude.{ℕ, Bool, List, [], ◌∷◌, ◌++◌, Option, is_some, if◌then◌else◌}
use Rattle.std.specs.Map.{lookup}
use Rattle.std.specs.Str.{bytes_eq}
use Rattle.wy_names_scope.specs.declared.table.Entry.{Entry}

abbrev pub Scope : Type 0
Scope = List (List ℕ × Entry)

-- what the name stands for
abbrev pub entry_of : Scope → List ℕ → Option Entry
entry_of scope name = lookup (bytes_eq name) scope

-- the name stands for something
abbrev pub has : Scope → List ℕ → Bool
has scope name = is_some (entry_of scope name)

-- with one more name behind the others, where it isn't there. One that is there isn't shadowed
abbrev pub with_name : Scope → List ℕ → Entry → Scope
with_name scope name entry = if has scope name then scope else scope ++ (name, entry) ∷ []
