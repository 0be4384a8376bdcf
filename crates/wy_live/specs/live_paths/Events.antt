-- What happens on a path, and whether a path uses a variable before it assigns it.
use Rattle.std.specs.Prelude.{◌≡◌, ℕ, Bool, false, not, ◌&&◌, ◌||◌, ◌==◌, List, [], ◌∷◌, ◌++◌}

-- a variable is used, or one is assigned
pub data Event : Type 0 where
  uses : (variable : ℕ) → Event
  sets : (variable : ℕ) → Event

-- what happens, in order
abbrev pub Path : Type 0
Path = List Event

-- a set of paths
abbrev pub Paths : Type 1
Paths = Path → Type 0

-- the path uses the variable before it assigns it
abbrev pub uses_first : ℕ → Path → Bool
uses_first x [] = false
uses_first x (uses y ∷ es) = (x == y) || uses_first x es
uses_first x (sets y ∷ es) = not (x == y) && uses_first x es

-- a path of the one kind, and then one of the other
abbrev pub Then : Paths → Paths → Paths
Then first second es = (p : Path) × (q : Path) × (es ≡ p ++ q) × first p × second q
