-- What a table of shapes owes.
use Rattle.std.specs.Prelude.{◌≢◌, ℕ, ◌<◌, List, [], ◌∷◌, length, slice_index_or, All}
use Rattle.wy_data.specs.Words.{IsName}
use Rattle.wy_value.specs.Values.{Rise}
use Rattle.wy_value.specs.declared.shapes.Shapes.{Shapes}

-- none stands twice
abbrev pub AreApart : {X : Type 0} → List X → Type 0
AreApart xs = (i j : ℕ) (d : _) → i < j → j < length xs → slice_index_or xs i d ≢ slice_index_or xs j d

-- the names with these numbers
abbrev pub named : List (List ℕ) → List ℕ → List (List ℕ)
named names [] = []
named names (n ∷ ns) = slice_index_or names n [] ∷ named names ns

-- no name and no list stands twice, each number is that of a name, and the names of each list rise
pub record IsShapes (s : Shapes) : Type 0 where
  pub names : All IsName s.names
  pub names_apart : AreApart s.names
  pub lists_apart : AreApart s.lists
  pub numbers : All (λ list. All (λ n. n < length s.names) list) s.lists
  pub rise : All (λ list. Rise (named s.names list)) s.lists
