-- Which declared types reach one with clauses, in rounds.
use Rattle.std.specs.Prelude.{ℕ, zero, suc, List, [], ◌∷◌, map, Bool, false, ◌||◌, get_or}
use Rattle.wy_core.specs.CoreTree.{Alias}
use Rattle.wy_sem.specs.TypeTests.{has_clauses, mentions}

-- the mark of a number; what stands behind the last isn't marked
abbrev pub marked : List Bool → ℕ → Bool
marked marks n = get_or marks n false

-- the type has clauses, or mentions a marked name
abbrev pub reached : List Bool → Alias ℕ → Bool
reached marks a = has_clauses a.clauses || mentions (marked marks) a.ty

-- the marks one round further
abbrev pub marks_after : List (Alias ℕ) → List Bool → List Bool
marks_after types marks = map (reached marks) types

-- no mark
abbrev pub no_marks : List (Alias ℕ) → List Bool
no_marks [] = []
no_marks (a ∷ types) = false ∷ no_marks types

-- the marks after so many rounds
abbrev pub rounds : List (Alias ℕ) → ℕ → List Bool
rounds types zero = no_marks types
rounds types (suc j) = marks_after types (rounds types j)
