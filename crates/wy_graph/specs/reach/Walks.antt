-- What is made on the way.
use Rattle.std.specs.Prelude.{◌≡◌, ℕ, suc, ◌<◌, List, [], ◌∷◌, ◌++◌, length, Bool, true, false, ◌==◌, nat_lt, if◌then◌else◌, slice_index, slice_index_or, slice_set}
use Rattle.wy_graph.specs.declared.closure.clauses.Clause.{Clause}
use Rattle.wy_graph.specs.closure.Closure.{has}
use Rattle.wy_graph.specs.declared.cycles.graph.Arrow.{Arrow}
use Rattle.wy_graph.specs.cycles.Cycles.{label}
use Rattle.wy_graph.specs.declared.reach.entries.Entry.{Entry}
use Rattle.wy_graph.specs.reach.Reach.{entry_at, names_at, some, is_recursive, nodes_of, written_nodes}

abbrev pub Entries : Type 0
Entries = List Entry

-- ---- arrows

abbrev pub arrow : ℕ → ℕ → Arrow
arrow n m = record { from = n; to = m }

-- from one name to each of these
abbrev pub arrows_from : ℕ → List ℕ → List Arrow
arrows_from n [] = []
arrows_from n (m ∷ ms) = arrow n m ∷ arrows_from n ms

-- from each name to those that it mentions; the first name has this number
abbrev pub arrows_of : ℕ → List Entry → List Arrow
arrows_of k [] = []
arrows_of k (e ∷ es) = arrows_from k e.names ++ arrows_of (suc k) es

-- ---- names that lead back to themselves

-- the name has the label of one that it mentions
abbrev pub is_looped : List ℕ → ℕ → List ℕ → Bool
is_looped labels n names = some (λ m. label labels n == label labels m) names

-- so for each name; the first has this number
abbrev pub loops_by : List ℕ → ℕ → List Entry → List Bool
loops_by labels k [] = []
loops_by labels k (e ∷ es) = is_looped labels k e.names ∷ loops_by labels (suc k) es

-- a mark; what has none isn't marked
abbrev pub mark_at : List Bool → ℕ → Bool
mark_at marks n = slice_index_or marks n false

-- the marks are those of the names that lead back to themselves
abbrev pub MarkRecursive : List Bool → List Entry → Type 0
MarkRecursive marks es = (n : ℕ) → mark_at marks n ≡ is_recursive es n

-- ---- an order

-- this number stands before the place
abbrev pub StandsBefore : List ℕ → ℕ → ℕ → Type 0
StandsBefore order i m = (p : ℕ) × (p < i) × (slice_index order p ≡ m)

-- all names, each that is not recursive behind those of its names that aren't
pub record IsOrdered (es : List Entry) (order : List ℕ) : Type 0 where
  pub count : length order ≡ length es
  pub each : (n : ℕ) → n < length es → StandsBefore order (length order) n
  pub behind : (i m : ℕ) → i < length order → is_recursive es (slice_index order i) ≡ false → has (names_at es (slice_index order i)) m ≡ true → m < length es → is_recursive es m ≡ false → StandsBefore order i m

-- ---- sizes

-- the number, and at most 65
abbrev pub capped : ℕ → ℕ
capped n = if nat_lt n 65 then n else 65

-- the size of a name; what has none is one node
abbrev pub size_at : List ℕ → ℕ → ℕ
size_at sizes n = slice_index_or sizes n 1

-- the sizes with that of one more name; a name that leads back to itself stays one node
abbrev pub with_size : List Entry → List Bool → List ℕ → ℕ → List ℕ
with_size es loops sizes n = if mark_at loops n then sizes else slice_set sizes n (capped (nodes_of (size_at sizes) (entry_at es n)))

-- the sizes of the names, up to 65
abbrev pub AreSizes : List ℕ → List Entry → Type 0
AreSizes sizes es = (n : ℕ) → size_at sizes n ≡ capped (written_nodes es (suc (length es)) n)

-- ---- clauses

abbrev pub body_of : Bool → List ℕ → List (List ℕ)
body_of true names = []
body_of false names = names ∷ []

-- clauses are reached from the name where it has some, or where they are reached from a name in it
abbrev pub clause_of : ℕ → Entry → Clause
clause_of k e = record { head = k; body = body_of e.has_clauses e.names }

abbrev pub clauses_of : ℕ → List Entry → List Clause
clauses_of k [] = []
clauses_of k (e ∷ es) = clause_of k e ∷ clauses_of (suc k) es
