-- The order of properties by rounds, each of which takes those whose used properties stand in the order before them.
use Rattle.std.specs.Prelude.{ℕ, ◌+◌, Bool, true, false, not, ◌&&◌, ◌||◌, ◌==◌, List, [], ◌∷◌, ◌++◌, Some, if◌then◌else◌}
use Rattle.wy_ast.specs.SurfaceTree.{Decl}
use Rattle.wy_names_recursion.specs.declared.edges.Edge.{Edge}
use Rattle.wy_names_recursion.specs.Uses.{Edges}
use Rattle.wy_names_recursion.specs.Endings.{is_use, is_property}

-- the index stands in the list
abbrev pub has : List ℕ → ℕ → Bool
has [] p = false
has (x ∷ xs) p = (x == p) || has xs p

-- a use by this property of one that doesn't stand in the order
abbrev pub blocks : List Decl → List ℕ → ℕ → Edge → Bool
blocks ds order p e = is_use ds e && ((e.from == p) && not (has order e.to))

-- all that the property uses stands in the order
abbrev pub is_ready : List Decl → List ℕ → ℕ → Edges → Bool
is_ready ds order p [] = true
is_ready ds order p (e ∷ es) = not (blocks ds order p e) && is_ready ds order p es

-- the order with the property, where it is ready
abbrev pub with_ready : Bool → List ℕ → ℕ → List ℕ
with_ready true order p = order ++ p ∷ []
with_ready false order p = order

-- what is left with the property, where it isn't ready
abbrev pub with_left : Bool → ℕ → List ℕ → List ℕ
with_left true p rest = rest
with_left false p rest = p ∷ rest

-- the order behind a round over these, and those that are left
abbrev pub order_behind : List Decl → Edges → List ℕ → List ℕ → List ℕ
order_behind ds es order [] = order
order_behind ds es order (p ∷ ps) = order_behind ds es (with_ready (is_ready ds order p es) order p) ps

abbrev pub rest_behind : List Decl → Edges → List ℕ → List ℕ → List ℕ
rest_behind ds es order [] = []
rest_behind ds es order (p ∷ ps) = with_left (is_ready ds order p es) p (rest_behind ds es (with_ready (is_ready ds order p es) order p) ps)

-- the indices of the properties among declarations, the first of which has this index
abbrev pub properties : ℕ → List Decl → List ℕ
properties k [] = []
properties k (d ∷ ds) = if is_property (Some d) then k ∷ properties (k + 1) ds else properties (k + 1) ds
