-- How many nodes lead to each node.
use Rattle.std.specs.Prelude.{◌≡◌, ◌↔◌, ℕ, suc, Bool, true, false, if◌then◌else◌, nat_lt, List, [], ◌∷◌, map, length}
use Rattle.wy_graph.specs.declared.closure.clauses.Clause.{Clause}
use Rattle.wy_graph.specs.closure.Marks.{mark_at}
use Rattle.wy_graph.specs.declared.cycles.graph.Arrow.{Arrow}
use Rattle.wy_graph.specs.cycles.Cycles.{Leads}

abbrev pub greater : ℕ → ℕ → ℕ
greater a b = if nat_lt a b then b else a

-- the greatest of a number and the arrows' ends
abbrev pub last_node : List Arrow → ℕ → ℕ
last_node [] last = last
last_node (a ∷ rest) last = last_node rest (greater (greater last a.from) a.to)

-- what leads to the arrow's end is led to by its beginning
abbrev pub clause_of : Arrow → Clause
clause_of a = record { head = a.from; body = (a.to ∷ []) ∷ [] }

-- the node is in the set, whatever else is
abbrev pub clause_at : ℕ → Clause
clause_at node = record { head = node; body = [] }

-- their least closed set is that of the nodes that lead to this one
abbrev pub clauses_to : List Arrow → ℕ → List Clause
clauses_to arrows node = clause_at node ∷ map clause_of arrows

abbrev pub how_many : List Bool → ℕ
how_many [] = 0
how_many (true ∷ marks) = suc (how_many marks)
how_many (false ∷ marks) = how_many marks

-- so many of the nodes below the count lead to this one
pub record CountsAncestors (arrows : List Arrow) (count node n : ℕ) : Type 0 where
  pub marks : List Bool
  pub size : length marks ≡ count
  pub exact : (v : ℕ) → (mark_at marks v ≡ true) ↔ Leads arrows v node
  pub number : n ≡ how_many marks
