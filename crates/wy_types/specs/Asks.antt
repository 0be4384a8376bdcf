-- The parts whose values decide whether a conjunct has a value: some of these, of which all, of each of which some part has one.
use Rattle.std.specs.Prelude.{◌≡◌, ℕ, ◌+◌, ◌*◌, leb, length, List, [], ◌∷◌, ◌++◌, Bool, true, false, cond, not}
use Rattle.wy_core.specs.wy_value.Datum.{Datum}
use Rattle.wy_types.specs.declared.conjuncts.Signed.{Signed}
use Rattle.wy_types.specs.declared.conjuncts.Part.{Part}
use Rattle.wy_types.specs.declared.conjuncts.Atom.{Atom}
use Rattle.wy_types.specs.declared.conjuncts.Atom.TheVariants as atom
use Rattle.wy_types.specs.declared.conjuncts.Conjunct.{Conjunct}
use Rattle.wy_types.specs.declared.table.Table.{Table}
use Rattle.wy_types.specs.Shape.{NullShape, BoolShape, IntShape, none_in, part_in}
use Rattle.wy_types.specs.Membership.{member}
use Rattle.wy_types.specs.Claims.{SomeOf, EachOf}
use Rattle.wy_types.specs.Merge.{part, same_names}
use Rattle.wy_types.specs.Conjuncts.{with_sides, dnf_part}

-- a field with these terms, before the others
abbrev pub field_first : List ℕ → List (Signed ℕ) → List (List ℕ × Part ℕ) → List (List ℕ × Part ℕ)
field_first name ts fs = (name, part ts) ∷ fs

-- a field before each of the lists
abbrev pub put_first : (List ℕ × Part ℕ) → List (List (List ℕ × Part ℕ)) → List (List (List ℕ × Part ℕ))
put_first f [] = []
put_first f (w ∷ ws) = (f ∷ w) ∷ put_first f ws

-- each field's part alone
abbrev pub alone : List (List ℕ × Part ℕ) → List (List (List (Signed ℕ)))
alone [] = []
alone (f ∷ fs) = (f.1.terms ∷ []) ∷ alone fs

-- so for each of the ways
abbrev pub all_alone : List (List (List ℕ × Part ℕ)) → List (List (List (List (Signed ℕ))))
all_alone [] = []
all_alone (w ∷ ws) = alone w ∷ all_alone ws

-- nothing where it is so, and what can't be had where it isn't
abbrev pub always : Bool → List (List (List (List (Signed ℕ))))
always b = cond b ([] ∷ []) []

-- none of the atoms has all records
abbrev pub names_only : List (Atom ℕ) → Bool
names_only [] = true
names_only (atom.AnyRecord ∷ more) = false
names_only (a ∷ more) = names_only more

module _ (table : Table) (k : ℕ) where
  -- the part, and the other sign of a term
  abbrev pub with_denied : List (Signed ℕ) → Signed ℕ → List (Signed ℕ)
  with_denied p s = with_sides table k p s.up (not s.inside) s.term

  -- ---- an array without arrays

  -- for each member of the second part: the first part with the other sign of it
  abbrev pub asked : List (Signed ℕ) → List (Signed ℕ) → List (List (Signed ℕ))
  asked p [] = []
  asked p (b ∷ bs) = with_denied p b ∷ asked p bs

  -- so for an atom
  abbrev pub asked_by : List (Signed ℕ) → Atom ℕ → List (List (List (Signed ℕ)))
  asked_by p (atom.Array q) = asked p q.terms ∷ []
  asked_by p _ = []

  -- so for each atom
  abbrev pub asked_each : List (Signed ℕ) → List (Atom ℕ) → List (List (List (Signed ℕ)))
  asked_each p [] = []
  asked_each p (a ∷ more) = asked_by p a ++ asked_each p more

  -- ---- a record without records: the ways

  -- the fields, the first of them with the other sign of a term, for each term
  abbrev pub spread_field : (List ℕ × Part ℕ) → List (List ℕ × Part ℕ) → List (Signed ℕ) → List (List (List ℕ × Part ℕ))
  spread_field f fs [] = []
  spread_field f fs (b ∷ bs) = field_first f.0 (with_denied f.1.terms b) fs ∷ spread_field f fs bs

  -- the fields, one of them with the other sign of a member of the second record's part there, in each way
  abbrev pub spread : List (List ℕ × Part ℕ) → List (List ℕ × Part ℕ) → List (List (List ℕ × Part ℕ))
  spread [] qs = []
  spread (f ∷ fs) [] = []
  spread (f ∷ fs) (q ∷ qs) = spread_field f fs q.1.terms ++ put_first f (spread fs qs)

  -- so for a negative atom
  abbrev pub spread_by : List (List ℕ × Part ℕ) → Atom ℕ → List (List (List ℕ × Part ℕ))
  spread_by fs (atom.Record qs) = cond (same_names fs qs) (spread fs qs) (fs ∷ [])
  spread_by fs atom.AnyRecord = []
  spread_by fs _ = fs ∷ []

  -- so for each of the ways
  abbrev pub spread_each : List (List (List ℕ × Part ℕ)) → Atom ℕ → List (List (List ℕ × Part ℕ))
  spread_each [] a = []
  spread_each (w ∷ ws) a = spread_by w a ++ spread_each ws a

  -- the ways of all negatives, the first of them slowest
  abbrev pub ways_from : List (List (List ℕ × Part ℕ)) → List (Atom ℕ) → List (List (List ℕ × Part ℕ))
  ways_from ws [] = ws
  ways_from ws (a ∷ more) = ways_from (spread_each ws a) more

  -- ---- what a conjunct asks

  -- what a positive atom without negatives asks
  abbrev pub options_of : Atom ℕ → List (Atom ℕ) → List (List (List (List (Signed ℕ))))
  options_of atom.Null ns = always (none_in NullShape ns)
  options_of atom.Bool ns = always (none_in BoolShape ns)
  options_of atom.Int ns = always (none_in IntShape ns)
  options_of (atom.Array p) ns = asked_each p.terms ns ∷ []
  options_of (atom.Record fs) ns = all_alone (ways_from (fs ∷ []) ns)
  options_of atom.AnyRecord ns = always (names_only ns)

  -- what one of the conjuncts asks
  abbrev pub all_options : List (Conjunct ℕ) → List (List (List (List (Signed ℕ))))
  all_options [] = []
  all_options (c ∷ cs) = options_of c.positive c.negatives ++ all_options cs

  -- what a part asks
  abbrev pub options : List (Signed ℕ) → List (List (List (List (Signed ℕ))))
  options p = all_options (dnf_part table k p)

  -- some datum is in the part
  abbrev pub HasValue : List (Signed ℕ) → Type 0
  HasValue p = (d : Datum) × (part_in (member table k d) p ≡ true)

-- what is asked is had
abbrev pub IsMet : {X : Type 0} → (X → Type 0) → List (List (List X)) → Type 0
IsMet P os = SomeOf (EachOf (SomeOf P)) os

-- how many members a record's parts have
abbrev pub members_of : List (List ℕ × Part ℕ) → ℕ
members_of [] = 0
members_of (f ∷ fs) = length f.1.terms + members_of fs

-- in how many ways a negative atom is given to a field
abbrev pub ways_by : List (List ℕ × Part ℕ) → Atom ℕ → ℕ
ways_by fs (atom.Record qs) = cond (same_names fs qs) (members_of qs) 1
ways_by fs atom.AnyRecord = 0
ways_by fs _ = 1

-- in how many ways all of them are
abbrev pub ways_count : List (List ℕ × Part ℕ) → List (Atom ℕ) → ℕ
ways_count fs [] = 1
ways_count fs (a ∷ more) = ways_by fs a * ways_count fs more

-- an atom without negatives that has at most 16,384 ways
abbrev pub few_ways_of : Atom ℕ → List (Atom ℕ) → Bool
few_ways_of (atom.Record fs) ns = leb (ways_count fs ns) 16384
few_ways_of _ ns = true

-- a conjunct with at most 16,384 ways
abbrev pub few_ways : Conjunct ℕ → Bool
few_ways c = few_ways_of c.positive c.negatives
