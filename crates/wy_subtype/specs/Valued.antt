-- Which conjuncts and which ways of records have a value.
use Rattle.std.specs.Prelude.{◌≡◌, ℕ, List, [], ◌∷◌, ◌++◌, Bool, true, false, cond, ◌⊎◌, Option, Some, None, slice_get}
use Rattle.std.specs.Option.{option_to_list}
use Rattle.wy_canon.specs.wy_value.Datum.{Datum}
use Rattle.wy_canon.specs.wy_types.declared.conjuncts.Part.{Part}
use Rattle.wy_canon.specs.wy_types.declared.conjuncts.Atom.{Atom}
use Rattle.wy_canon.specs.wy_types.declared.conjuncts.Atom.TheVariants as atom
use Rattle.wy_canon.specs.wy_types.declared.conjuncts.Conjunct.{Conjunct}
use Rattle.wy_canon.specs.wy_types.declared.table.Table.{Table}
use Rattle.wy_canon.specs.wy_types.Asks.{HasValue, ways_from}
use Rattle.wy_canon.specs.wy_types.Shape.{conjunct_in}
use Rattle.wy_canon.specs.wy_types.Membership.{shape_of}
use Rattle.wy_subtype.specs.declared.valued.Inhabited.{Inhabited}
use Rattle.wy_subtype.specs.Marks.{mark_at, each_marked}

-- some datum is in the conjunct
abbrev pub HasDatum : Table → ℕ → Conjunct ℕ → Type 0
HasDatum table k c = (d : Datum) × (conjunct_in (shape_of table k d) c ≡ true)

-- the second list has the conjuncts of the first that have a value, in order, and no others
abbrev pub AreValued : Table → ℕ → List (Conjunct ℕ) → List (Conjunct ℕ) → Type 0
AreValued table k [] made = made ≡ []
AreValued table k (c ∷ cs) made =
    ((rest : List (Conjunct ℕ)) × HasDatum table k c × (made ≡ c ∷ rest) × AreValued table k cs rest)
    ⊎ ((HasDatum table k c → ⊥) × AreValued table k cs made)

-- the conjunct with this number, where it is marked
abbrev pub marked_at : List Bool → List (Conjunct ℕ) → ℕ → List (Conjunct ℕ)
marked_at marks conjuncts n = cond (mark_at marks n) (option_to_list (slice_get conjuncts n)) []

-- those of the numbered conjuncts that are marked
abbrev pub marked : List Bool → List (Conjunct ℕ) → List ℕ → List (Conjunct ℕ)
marked marks conjuncts [] = []
marked marks conjuncts (n ∷ ns) = marked_at marks conjuncts n ++ marked marks conjuncts ns

-- ---- the ways of records

-- the ways of a record without the negatives; nothing else has ways
abbrev pub atom_ways : Table → ℕ → Atom ℕ → List (Atom ℕ) → List (List (List ℕ × Part ℕ))
atom_ways table k (atom.Record fs) ns = ways_from table k (fs ∷ []) ns
atom_ways table k _ ns = []

-- so for a conjunct
abbrev pub ways_of : Table → ℕ → Conjunct ℕ → List (List (List ℕ × Part ℕ))
ways_of table k c = atom_ways table k c.positive c.negatives

-- so for each of the conjuncts
abbrev pub all_ways : Table → ℕ → List (Conjunct ℕ) → List (List (List ℕ × Part ℕ))
all_ways table k [] = []
all_ways table k (c ∷ cs) = ways_of table k c ++ all_ways table k cs

-- every field's part has a value
abbrev pub IsInhabited : Table → ℕ → List (List ℕ × Part ℕ) → Type 0
IsInhabited table k [] = Unit {0}
IsInhabited table k (f ∷ w) = HasValue table k f.1.terms × IsInhabited table k w

-- the second list has the ways of the first in which every field's part has a value, in order, and no others
abbrev pub AreInhabited : Table → ℕ → List (List (List ℕ × Part ℕ)) → List (List (List ℕ × Part ℕ)) → Type 0
AreInhabited table k [] made = made ≡ []
AreInhabited table k (w ∷ ws) made =
    ((rest : List (List (List ℕ × Part ℕ))) × IsInhabited table k w × (made ≡ w ∷ rest) × AreInhabited table k ws rest)
    ⊎ ((IsInhabited table k w → ⊥) × AreInhabited table k ws made)

-- the ways whose parts' numbers are all marked
abbrev pub held_ways : List Bool → List (List (List ℕ × Part ℕ)) → List (List (List ℕ)) → List (List (List ℕ × Part ℕ))
held_ways held [] asks = []
held_ways held (w ∷ ws) [] = []
held_ways held (w ∷ ws) (a ∷ asks) = cond (each_marked held a) (w ∷ held_ways held ws asks) (held_ways held ws asks)

-- so for a positive atom
abbrev pub held_by : Table → ℕ → List Bool → Atom ℕ → List (Atom ℕ) → List (List (List ℕ)) → List (List (List ℕ × Part ℕ))
held_by table k held (atom.Record fs) ns asks = held_ways held (ways_from table k (fs ∷ []) ns) asks
held_by table k held _ ns asks = []

-- so for a conjunct, with what it asks
abbrev pub held_of : Table → ℕ → List Bool → Option (Conjunct ℕ) → Option (List (List (List ℕ))) → List (List (List ℕ × Part ℕ))
held_of table k held (Some c) (Some a) = held_by table k held c.positive c.negatives a
held_of table k held _ _ = []

-- so for the conjunct with this number, where it is marked
abbrev pub held_at : Table → ℕ → List Bool → List Bool → List (Conjunct ℕ) → List (List (List (List ℕ))) → ℕ → List (List (List ℕ × Part ℕ))
held_at table k marks held conjuncts asks n = cond (mark_at marks n) (held_of table k held (slice_get conjuncts n) (slice_get asks n)) []

-- so for each of the numbers
abbrev pub held_all : Table → ℕ → List Bool → List Bool → List (Conjunct ℕ) → List (List (List (List ℕ))) → List ℕ → List (List (List ℕ × Part ℕ))
held_all table k marks held conjuncts asks [] = []
held_all table k marks held conjuncts asks (n ∷ ns) = held_at table k marks held conjuncts asks n ++ held_all table k marks held conjuncts asks ns

-- the conjuncts of the part that have a value, and their ways in which every field's part has one
pub record AreThose (table : Table) (k : ℕ) (cs : List (Conjunct ℕ)) (made : Inhabited) : Type 0 where
  pub conjuncts : AreValued table k cs made.conjuncts
  pub ways : AreInhabited table k (all_ways table k made.conjuncts) made.ways
