-- A use of one declaration in another, put behind others.
use Rattle.std.specs.Prelude.{ℕ, List, [], ◌∷◌, ◌++◌, Option, Some, None}
use Rattle.wy_names_scope.specs.declared.table.Entry.{Entry}
use Rattle.wy_names_scope.specs.declared.table.Entry.TheVariants as entry
use Rattle.wy_names_recursion.specs.declared.edges.Edge.{Edge}
use Rattle.wy_names_recursion.specs.declared.edges.Way.{Way}
use Rattle.wy_names_recursion.specs.declared.edges.Way.TheVariants as way

abbrev pub Edges : Type 0
Edges = List Edge

abbrev pub with_edge : Edges → ℕ → ℕ → ℕ → Way → Edges
with_edge edges from to at w = edges ++ record { from = from; to = to; at = at; way = w } ∷ []

-- inside a record or an array. A mention stays one
abbrev pub guarded : Way → Way
guarded way.Bare = way.Guarded
guarded way.Guarded = way.Guarded
guarded way.Mention = way.Mention
guarded way.Use = way.Use

abbrev pub type_use : ℕ → Way → ℕ → Entry → Edges → Edges
type_use from w at (entry.Type n decl) edges = with_edge edges from decl at w
type_use from w at (entry.Routine s) edges = edges
type_use from w at (entry.Property decl arity) edges = edges
type_use from w at (entry.Variable n) edges = edges

abbrev pub type_named : ℕ → Way → ℕ → Option Entry → Edges → Edges
type_named from w at None edges = edges
type_named from w at (Some e) edges = type_use from w at e edges

abbrev pub property_use : ℕ → ℕ → Entry → Edges → Edges
property_use from at (entry.Type n decl) edges = edges
property_use from at (entry.Routine s) edges = edges
property_use from at (entry.Property decl arity) edges = with_edge edges from decl at way.Use
property_use from at (entry.Variable n) edges = edges

abbrev pub property_named : ℕ → ℕ → Option Entry → Edges → Edges
property_named from at None edges = edges
property_named from at (Some e) edges = property_use from at e edges
