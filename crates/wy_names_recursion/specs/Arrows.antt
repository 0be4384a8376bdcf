-- The arrows that uses make among declarations.
use Rattle.std.specs.Prelude.{Bool, true, List, [], ◌∷◌, if◌then◌else◌}
use Rattle.wy_graph.specs.declared.cycles.graph.Arrow.{Arrow}
use Rattle.wy_names_recursion.specs.declared.edges.Edge.{Edge}
use Rattle.wy_names_recursion.specs.declared.edges.Way.{Way}
use Rattle.wy_names_recursion.specs.declared.edges.Way.TheVariants as way
use Rattle.wy_names_recursion.specs.Uses.{Edges}

-- a use of this kind counts: each does, or all but those inside of records and arrays
abbrev pub counts : Bool → Way → Bool
counts all way.Bare = true
counts all way.Guarded = all
counts all way.Mention = true
counts all way.Use = true

-- the arrow of a use
abbrev pub arrow_of : Edge → Arrow
arrow_of e = record { from = e.from; to = e.to }

-- the arrows of the uses that count, in order
abbrev pub arrows_of : Bool → Edges → List Arrow
arrows_of all [] = []
arrows_of all (e ∷ es) = if counts all e.way then arrow_of e ∷ arrows_of all es else arrows_of all es
