-- The clauses that mention each number.
use Rattle.std.specs.Prelude.{◌≡◌, ℕ, zero, suc, ◌<◌, List, [], ◌∷◌, ◌++◌, Bool, true, false, ◌||◌, Some, slice_get, length}
use Rattle.std.specs.Option.{unwrap_or}
use Rattle.wy_graph.specs.declared.closure.clauses.Clause.{Clause}
use Rattle.wy_graph.specs.closure.Closure.{has}

-- one of the lists has the number
abbrev pub mentions : List (List ℕ) → ℕ → Bool
mentions [] n = false
mentions (ns ∷ more) n = has ns n || mentions more n

-- the clauses at the number
abbrev pub asking_at : List (List ℕ) → ℕ → List ℕ
asking_at asking n = unwrap_or (slice_get asking n) []

-- each clause stands at each number that it mentions
abbrev pub IsIndex : List Clause → List (List ℕ) → Type 0
IsIndex clauses asking = (i : ℕ) (c : Clause) → slice_get clauses i ≡ Some c → (n : ℕ) → n < length asking → mentions c.body n ≡ true → has (asking_at asking n) i ≡ true

-- the lists, and the clause last at the number
abbrev pub with_clause : List (List ℕ) → ℕ → ℕ → List (List ℕ)
with_clause [] n i = []
with_clause (a ∷ asking) zero i = (a ++ i ∷ []) ∷ asking
with_clause (a ∷ asking) (suc n) i = a ∷ with_clause asking n i

-- so at each of the numbers
abbrev pub with_numbers : List (List ℕ) → List ℕ → ℕ → List (List ℕ)
with_numbers asking [] i = asking
with_numbers asking (n ∷ ns) i = with_numbers (with_clause asking n i) ns i

-- so at each number of a body
abbrev pub with_body : List (List ℕ) → List (List ℕ) → ℕ → List (List ℕ)
with_body asking [] i = asking
with_body asking (ns ∷ more) i = with_body (with_numbers asking ns i) more i

-- so for each clause, the first of which has this number
abbrev pub with_all : List (List ℕ) → List Clause → ℕ → List (List ℕ)
with_all asking [] i = asking
with_all asking (c ∷ cs) i = with_all (with_body asking c.body i) cs (suc i)
