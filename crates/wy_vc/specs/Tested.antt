-- The named types that terms test.
use Rattle.std.specs.Prelude.{◌≡◌, ℕ, List, [], ◌∷◌, ◌++◌, Bool, true, false, get_or, Option, Some, None}
use Rattle.wy_term.specs.Term.{Symbol, Term, Of, in_type}
use Rattle.wy_term.specs.Nodes.{Plain, tree_at}
use Rattle.wy_vc_spec.specs.Limits.{tests_in}

-- the named type of a test
abbrev pub type_of : Symbol → Option ℕ
type_of (in_type n) = Some n
type_of symbol = None

abbrev pub symbol_of : Term → Symbol
symbol_of (Of symbol ps) = symbol

abbrev pub listed_if : Option ℕ → List ℕ
listed_if None = []
listed_if (Some n) = n ∷ []

-- those of the terms with these numbers, in order
abbrev pub types_at : List Plain → List ℕ → List ℕ
types_at nodes [] = []
types_at nodes (k ∷ ks) = listed_if (type_of (symbol_of (tree_at nodes k))) ++ types_at nodes ks

-- a term whose mark is false tests no named type, nor does one that it is made of
abbrev pub AreQuiet : List Plain → List Bool → Type 0
AreQuiet nodes marks = (k : ℕ) → get_or marks k true ≡ false → tests_in (tree_at nodes k) ≡ []
