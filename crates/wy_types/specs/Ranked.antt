-- Tables in which a name recurs only through records and arrays.
use Rattle.std.specs.Prelude.{◌≡◌, ℕ, ◌<◌, Bool, true, not, ◌&&◌, ◌||◌, Option, Some, None}
use Rattle.wy_types.specs.declared.table.Node.{Node}
use Rattle.wy_types.specs.declared.table.Node.TheVariants as node
use Rattle.wy_types.specs.declared.table.Definition.{Definition}
use Rattle.wy_types.specs.declared.table.Table.{Table}
use Rattle.wy_types.specs.Shape.{Shape, NullShape, BoolShape, IntShape, ArrayShape, RecordShape}
use Rattle.wy_types.specs.Claims.{EachOf}
use Rattle.wy_types.specs.Membership.{node_of, definition_of}

-- what a name stands for has a smaller rank
abbrev pub IsNameBelow : (ℕ → ℕ) → ℕ → Option Definition → Type 0
IsNameBelow rank r None = Unit {0}
IsNameBelow rank r (Some d) = rank d.term < r

-- what a node uses bare has a smaller rank
abbrev pub IsBelow : Table → (ℕ → ℕ) → ℕ → Node → Type 0
IsBelow table rank r node.Null = Unit {0}
IsBelow table rank r node.Bool = Unit {0}
IsBelow table rank r node.Int = Unit {0}
IsBelow table rank r node.Any = Unit {0}
IsBelow table rank r node.Void = Unit {0}
IsBelow table rank r (node.Record fs) = Unit {0}
IsBelow table rank r (node.Array t) = Unit {0}
IsBelow table rank r (node.Union a b) = (rank a < r) × (rank b < r)
IsBelow table rank r (node.Inter a b) = (rank a < r) × (rank b < r)
IsBelow table rank r (node.Not a) = rank a < r
IsBelow table rank r (node.Named n) = IsNameBelow rank r (definition_of table n)
IsBelow table rank r (node.Normal cs) = Unit {0}

-- every term has a rank below the number, and what it uses bare a smaller one
abbrev pub IsRanked : Table → (ℕ → ℕ) → ℕ → Type 0
IsRanked table rank k = (t : ℕ) → (rank t < k) × IsBelow table rank (rank t) (node_of table t)

-- what a reader tells of a term is what it tells of its sides
abbrev pub Obeys : (Bool → ℕ → Bool) → Bool → Node → Bool → Type 0
Obeys r up node.Any b = b ≡ true
Obeys r up (node.Union x y) b = b ≡ (r up x || r up y)
Obeys r up (node.Inter x y) b = b ≡ (r up x && r up y)
Obeys r up (node.Not x) b = b ≡ not (r (not up) x)
Obeys r up _ b = Unit {0}

-- so of every term
abbrev pub IsLawful : Table → (Bool → ℕ → Bool) → Type 0
IsLawful table r = (up : Bool) (t : ℕ) → Obeys r up (node_of table t) (r up t)

-- so of every part of a value
abbrev pub HasLaws : Table → Shape ℕ → Type 0
HasLaws table NullShape = Unit {0}
HasLaws table BoolShape = Unit {0}
HasLaws table IntShape = Unit {0}
HasLaws table (ArrayShape items) = EachOf (IsLawful table) items
HasLaws table (RecordShape names values) = EachOf (IsLawful table) values
