-- Variables by number: the names of those that are declared so far.
use Rattle.std.specs.Prelude.{ℕ, List, [], ◌∷◌, ◌++◌, length, Option, Some, None}
use Rattle.wy_names_scope.specs.Scope.{Scope, entry_of, with_name}
use Rattle.wy_names_scope.specs.declared.table.Entry.{Entry}
use Rattle.wy_names_scope.specs.declared.table.Entry.TheVariants as entry

abbrev pub Variables : Type 0
Variables = List (List ℕ)

-- with one more name behind the others
abbrev pub named : Variables → List ℕ → Variables
named vs name = vs ++ name ∷ []

-- the scope with one more variable, which has the next number
abbrev pub declared : Scope → Variables → List ℕ → Scope
declared scope vs name = with_name scope name (entry.Variable (length vs))

abbrev pub variable_entry : Entry → ℕ
variable_entry (entry.Type n decl) = 0
variable_entry (entry.Routine s) = 0
variable_entry (entry.Property decl arity) = 0
variable_entry (entry.Variable n) = n

-- the number of a variable
abbrev pub variable_of : Option Entry → ℕ
variable_of None = 0
variable_of (Some e) = variable_entry e

abbrev pub routine_entry : Entry → ℕ
routine_entry (entry.Type n decl) = 0
routine_entry (entry.Routine s) = s.number
routine_entry (entry.Property decl arity) = 0
routine_entry (entry.Variable n) = 0

-- the number of a function or method
abbrev pub routine_of : Option Entry → ℕ
routine_of None = 0
routine_of (Some e) = routine_entry e

abbrev pub type_entry : Entry → ℕ
type_entry (entry.Type n decl) = n
type_entry (entry.Routine s) = 0
type_entry (entry.Property decl arity) = 0
type_entry (entry.Variable n) = 0

-- the number of a type
abbrev pub type_of : Option Entry → ℕ
type_of None = 0
type_of (Some e) = type_entry e
