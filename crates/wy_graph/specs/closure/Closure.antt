-- The least set of numbers that is closed under clauses.
use Rattle.std.specs.Prelude.{◌≡◌, ℕ, ◌+◌, ◌<◌, List, [], ◌∷◌, Bool, true, false, ◌||◌, ◌==◌, ◌⊎◌, Some, slice_get, length, take}
use Rattle.std.specs.Prelude.{slice_set}
use Rattle.std.specs.Option.{unwrap_or}
use Rattle.wy_graph.specs.declared.closure.clauses.Clause.{Clause}
use Rattle.wy_graph.specs.closure.Marks.{mark_at, each_marked}

-- each head is below the number
abbrev pub HaveHeads : ℕ → List Clause → Type 0
HaveHeads count clauses = (i : ℕ) (c : Clause) → slice_get clauses i ≡ Some c → c.head < count

-- each clause whose body is met has a mark at its head
abbrev pub IsClosed : List Clause → List Bool → Type 0
IsClosed clauses marks = (i : ℕ) (c : Clause) → slice_get clauses i ≡ Some c → each_marked marks c.body ≡ true → mark_at marks c.head ≡ true

-- the marks come about from none by clauses whose bodies are met, one after another
pub data IsReached (clauses : List Clause) : List Bool → Type 0 where
  from_none : (marks : List Bool) → ((n : ℕ) → mark_at marks n ≡ false) → IsReached clauses marks
  by_clause : (marks : List Bool) (i : ℕ) (c : Clause) → IsReached clauses marks → slice_get clauses i ≡ Some c → each_marked marks c.body ≡ true → IsReached clauses (slice_set marks c.head true)

-- the number is one of the list
abbrev pub has : List ℕ → ℕ → Bool
has [] n = false
has (x ∷ xs) n = (x == n) || has xs n

-- so, but for clauses that are due
abbrev pub IsPending : List Clause → List Bool → List ℕ → Type 0
IsPending clauses marks due =
    (i : ℕ) (c : Clause) → slice_get clauses i ≡ Some c → each_marked marks c.body ≡ true → (mark_at marks c.head ≡ true) ⊎ (has due i ≡ true)

-- how many clauses wait for numbers without a mark, each for each mention
abbrev pub waiting : List Bool → List (List ℕ) → ℕ
waiting [] asking = 0
waiting (m ∷ marks) [] = 0
waiting (true ∷ marks) (a ∷ asking) = waiting marks asking
waiting (false ∷ marks) (a ∷ asking) = length a + waiting marks asking

-- the number at a place, if there is one, or 0
abbrev pub number_at : List ℕ → ℕ → ℕ
number_at ns i = unwrap_or (slice_get ns i) 0

-- of each clause, as many lists from the front as are noted have a number with a mark
abbrev pub AreMet : List Clause → List Bool → List ℕ → Type 0
AreMet clauses marks met = (i : ℕ) (c : Clause) → slice_get clauses i ≡ Some c → each_marked marks (take (number_at met i) c.body) ≡ true
