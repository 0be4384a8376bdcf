-- Membership meets its equations in a ranked table, so what the parts of a datum tell obeys the laws of sides.
use Rattle.std.proofs.Common.{◌≡◌, ℕ, zero, suc, ◌<◌, Bool, not, ◌&&◌, ◌||◌, Option, Some, None, refl, ap, arith}
use Rattle.wy_core.specs.wy_value.Datum.{Datum, Data, Fields, no_items, item, no_fields, field}
use Rattle.wy_core.specs.wy_value.Datum as datum
use Rattle.wy_types.specs.declared.table.Node.{Node}
use Rattle.wy_types.specs.declared.table.Node.TheVariants as node
use Rattle.wy_types.specs.declared.table.Definition.{Definition}
use Rattle.wy_types.specs.declared.table.Table.{Table}
use Rattle.wy_types.specs.Shape.{Shape}
use Rattle.wy_types.specs.Claims.{EachOf}
use Rattle.wy_types.specs.Membership.{node_of, definition_of, named_in, node_in, is_in, shape_of, item_readers, field_readers}
use Rattle.wy_types.specs.Ranked.{IsNameBelow, IsBelow, IsRanked, Obeys, IsLawful, HasLaws}

named_same : (rank : ℕ → ℕ) (r s : Bool → ℕ → Bool) (k : ℕ) → ((up : Bool) (t : ℕ) → rank t < k → r up t ≡ s up t) → (up : Bool) (d : Option Definition) → IsNameBelow rank k d → named_in r up d ≡ named_in s up d
named_same rank r s k e up None b = refl
named_same rank r s k e up (Some d) b = ap (λ x. (up || not d.constrained) && x) (e up d.term b)

node_same : (table : Table) (rank : ℕ → ℕ) (r s : Bool → ℕ → Bool) (shape : Shape ℕ) (k : ℕ) → ((up : Bool) (t : ℕ) → rank t < k → r up t ≡ s up t) → (up : Bool) (n : Node) → IsBelow table rank k n
    → node_in table r shape up n ≡ node_in table s shape up n
node_same table rank r s shape k e up node.Null b = refl
node_same table rank r s shape k e up node.Bool b = refl
node_same table rank r s shape k e up node.Int b = refl
node_same table rank r s shape k e up node.Any b = refl
node_same table rank r s shape k e up node.Void b = refl
node_same table rank r s shape k e up (node.Record fs) b = refl
node_same table rank r s shape k e up (node.Array t) b = refl
node_same table rank r s shape k e up (node.Union x y) b = rw (e up x b.0, e up y b.1) refl
node_same table rank r s shape k e up (node.Inter x y) b = rw (e up x b.0, e up y b.1) refl
node_same table rank r s shape k e up (node.Not x) b = ap not (e (not up) x b)
node_same table rank r s shape k e up (node.Named n) b = named_same rank r s k e up (definition_of table n) b
node_same table rank r s shape k e up (node.Normal cs) b = refl

is_in-deeper : (table : Table) (rank : ℕ → ℕ) → ((t : ℕ) → IsBelow table rank (rank t) (node_of table t)) → (k : ℕ) (shape : Shape ℕ) (up : Bool) (t : ℕ) → rank t < k → is_in table k shape up t ≡ is_in table (suc k) shape up t
is_in-deeper table rank below zero shape up t lt = absurd (omega (arith, lt))
is_in-deeper table rank below (suc k) shape up t lt =
    node_same table rank (is_in table k shape) (is_in table (suc k) shape) shape (rank t)
    (λ u s less. is_in-deeper table rank below k shape u s (omega (arith, less, lt))) up (node_of table t) (below t)

-- what a term says of a value is what its node says
pub is_in-node : (table : Table) (rank : ℕ → ℕ) (k : ℕ) → IsRanked table rank k → (shape : Shape ℕ) (up : Bool) (t : ℕ) → is_in table k shape up t ≡ node_in table (is_in table k shape) shape up (node_of table t)
is_in-node table rank k ranked shape up t = is_in-deeper table rank (λ s. (ranked s).1) k shape up t (ranked t).0

obeys : (table : Table) (r : Bool → ℕ → Bool) (shape : Shape ℕ) (up : Bool) (n : Node) (b : Bool) → b ≡ node_in table r shape up n → Obeys r up n b
obeys table r shape up node.Any b e = e
obeys table r shape up (node.Union x y) b e = e
obeys table r shape up (node.Inter x y) b e = e
obeys table r shape up (node.Not x) b e = e
obeys table r shape up node.Null b e = tt
obeys table r shape up node.Bool b e = tt
obeys table r shape up node.Int b e = tt
obeys table r shape up node.Void b e = tt
obeys table r shape up (node.Record fs) b e = tt
obeys table r shape up (node.Array t) b e = tt
obeys table r shape up (node.Named n) b e = tt
obeys table r shape up (node.Normal cs) b e = tt

pub is_lawful : (table : Table) (rank : ℕ → ℕ) (k : ℕ) → IsRanked table rank k → (shape : Shape ℕ) → IsLawful table (is_in table k shape)
is_lawful table rank k ranked shape up t = obeys table (is_in table k shape) shape up (node_of table t) (is_in table k shape up t) (is_in-node table rank k ranked shape up t)

items_lawful : (table : Table) (rank : ℕ → ℕ) (k : ℕ) → IsRanked table rank k → (items : Data) → EachOf (IsLawful table) (item_readers table k items)
items_lawful table rank k ranked no_items = tt
items_lawful table rank k ranked (item d rest) = (is_lawful table rank k ranked (shape_of table k d), items_lawful table rank k ranked rest)

fields_lawful : (table : Table) (rank : ℕ → ℕ) (k : ℕ) → IsRanked table rank k → (fields : Fields) → EachOf (IsLawful table) (field_readers table k fields)
fields_lawful table rank k ranked no_fields = tt
fields_lawful table rank k ranked (field name d rest) = (is_lawful table rank k ranked (shape_of table k d), fields_lawful table rank k ranked rest)

pub has_laws : (table : Table) (rank : ℕ → ℕ) (k : ℕ) → IsRanked table rank k → (d : Datum) → HasLaws table (shape_of table k d)
has_laws table rank k ranked datum.Null = tt
has_laws table rank k ranked (datum.Truth b) = tt
has_laws table rank k ranked (datum.Whole z) = tt
has_laws table rank k ranked (datum.Array items) = items_lawful table rank k ranked items
has_laws table rank k ranked (datum.Record fields) = fields_lawful table rank k ranked fields
