-- Which names stand in a term, free or bound, and which number a new name takes.
use Rattle.std.specs.Prelude.{ℕ, zero, suc, ◌+◌, ◌^◌, List, [], ◌∷◌, ◌++◌, Bool, false, ◌&&◌, ◌||◌, ◌==◌, bytes_eq, nat_lt, if◌then◌else◌}
use Rattle.wy_term.specs.Term.{Symbol, Term, Of, Parts, no_parts, part, int_name, val_name, every, exists}

abbrev mutual
  -- the test holds of a symbol of the term
  pub any_symbol : (Symbol → Bool) → Term → Bool
  any_symbol test (Of symbol ps) = test symbol || any_in_parts test ps

  pub any_in_parts : (Symbol → Bool) → Parts → Bool
  any_in_parts test no_parts = false
  any_in_parts test (part t ps) = any_symbol test t || any_in_parts test ps

-- ---- names

-- the symbol is the Int name with this word and number, or binds it
abbrev pub names_it : List ℕ → ℕ → Symbol → Bool
names_it w n (int_name v m) = bytes_eq v w && (m == n)
names_it w n (every v m) = bytes_eq v w && (m == n)
names_it w n (exists v m) = bytes_eq v w && (m == n)
names_it w n symbol = false

-- the Int name stands in the term, free or bound
abbrev pub stands_in : List ℕ → ℕ → Term → Bool
stands_in w n t = any_symbol (names_it w n) t

-- ---- numbers

-- the number of the name that a symbol is, or binds
abbrev pub numbers_by : Symbol → List ℕ
numbers_by (int_name w n) = n ∷ []
numbers_by (val_name w n) = n ∷ []
numbers_by (every w n) = n ∷ []
numbers_by (exists w n) = n ∷ []
numbers_by symbol = []

abbrev mutual
  -- the numbers of the names in a term, free or bound, as they are written
  pub numbers_in : Term → List ℕ
  numbers_in (Of symbol ps) = numbers_by symbol ++ numbers_in_parts ps

  pub numbers_in_parts : Parts → List ℕ
  numbers_in_parts no_parts = []
  numbers_in_parts (part t ps) = numbers_in t ++ numbers_in_parts ps

-- the number is one of these
abbrev pub is_in : ℕ → List ℕ → Bool
is_in n [] = false
is_in n (m ∷ ms) = (m == n) || is_in n ms

-- the greatest of these numbers, or 0
abbrev pub top : List ℕ → ℕ
top [] = 0
top (n ∷ ns) = if nat_lt (top ns) n then n else top ns

-- the first of so many numbers from this one on that isn't one of these, or the one behind them
abbrev pub first_free : ℕ → ℕ → List ℕ → ℕ
first_free zero n ns = n
first_free (suc k) n ns = if is_in n ns then first_free k (n + 1) ns else n

-- the number one above these; where a name can't have it, the least that is none of them
abbrev pub new_number : List ℕ → ℕ
new_number ns = if nat_lt (top ns + 1) (2 ^ 127) then top ns + 1 else first_free (top ns + 1) 0 ns
