-- Lists of conjuncts: their merge, atoms and conjuncts taken out, and the width of these.
use Rattle.std.specs.Prelude.{ℕ, ◌*◌, leb, length, List, [], ◌∷◌, Bool, true, false, cond, ◌&&◌}
use Rattle.std.specs.Str.{bytes_eq}
use Rattle.wy_types.specs.declared.conjuncts.Signed.{Signed}
use Rattle.wy_types.specs.declared.conjuncts.Part.{Part}
use Rattle.wy_types.specs.declared.conjuncts.Atom.{Atom}
use Rattle.wy_types.specs.declared.conjuncts.Atom.TheVariants as atom
use Rattle.wy_types.specs.declared.conjuncts.Conjunct.{Conjunct}
use Rattle.wy_types.specs.Same.{united, united_atoms, with_conjunct, united_conjuncts}

-- the part with these terms
abbrev pub part : {T : Type 0} → List (Signed T) → Part T
part ts = record { terms = ts }

-- an atom without negatives
abbrev pub plain : {T : Type 0} → Atom T → Conjunct T
plain a = record { positive = a; negatives = [] }

-- an atom without another one
abbrev pub without : {T : Type 0} → Atom T → Atom T → Conjunct T
without a b = record { positive = a; negatives = b ∷ [] }

-- all arrays
abbrev pub all_arrays : {T : Type 0} → Atom T
all_arrays = atom.Array (part [])

-- the five atoms that have every value
abbrev pub kinds : {T : Type 0} → List (Conjunct T)
kinds = plain atom.Null ∷ plain atom.Bool ∷ plain atom.Int ∷ plain all_arrays ∷ plain atom.AnyRecord ∷ []

-- nothing taken in, everything taken out
abbrev pub nothing_or_all : {T : Type 0} → Bool → List (Conjunct T)
nothing_or_all true = []
nothing_or_all false = kinds

-- everything taken in, nothing taken out
abbrev pub all_or_nothing : {T : Type 0} → Bool → List (Conjunct T)
all_or_nothing true = kinds
all_or_nothing false = []

-- an atom taken out: the atoms of other kinds, and its kind without it
abbrev pub taken_out : {T : Type 0} → Atom T → List (Conjunct T)
taken_out atom.Null = plain atom.Bool ∷ plain atom.Int ∷ plain all_arrays ∷ plain atom.AnyRecord ∷ []
taken_out atom.Bool = plain atom.Null ∷ plain atom.Int ∷ plain all_arrays ∷ plain atom.AnyRecord ∷ []
taken_out atom.Int = plain atom.Null ∷ plain atom.Bool ∷ plain all_arrays ∷ plain atom.AnyRecord ∷ []
taken_out (atom.Array p) = plain atom.Null ∷ plain atom.Bool ∷ plain atom.Int ∷ without all_arrays (atom.Array p) ∷ plain atom.AnyRecord ∷ []
taken_out (atom.Record fs) = plain atom.Null ∷ plain atom.Bool ∷ plain atom.Int ∷ plain all_arrays ∷ without atom.AnyRecord (atom.Record fs) ∷ []
taken_out atom.AnyRecord = plain atom.Null ∷ plain atom.Bool ∷ plain atom.Int ∷ plain all_arrays ∷ []

-- an atom taken in or out
abbrev pub atom_or_out : {T : Type 0} → Bool → Atom T → List (Conjunct T)
atom_or_out true a = plain a ∷ []
atom_or_out false a = taken_out a

-- the same field names
abbrev pub same_names : {T : Type 0} → List (List ℕ × Part T) → List (List ℕ × Part T) → Bool
same_names [] [] = true
same_names (x ∷ xs) (y ∷ ys) = bytes_eq x.0 y.0 && same_names xs ys
same_names _ _ = false

-- not a record with other names
abbrev pub fits_atom : {T : Type 0} → List (List ℕ × Part T) → Atom T → Bool
fits_atom fs (atom.Record qs) = same_names fs qs
fits_atom fs _ = true

-- the atoms without records of other names
abbrev pub fitting : {T : Type 0} → List (List ℕ × Part T) → List (Atom T) → List (Atom T)
fitting fs [] = []
fitting fs (a ∷ more) = cond (fits_atom fs a) (a ∷ fitting fs more) (fitting fs more)

-- the negatives that a positive atom keeps
abbrev pub kept : {T : Type 0} → Atom T → List (Atom T) → List (Atom T)
kept (atom.Record fs) ns = fitting fs ns
kept _ ns = ns

-- at most 16,384 pairs
abbrev pub few_pairs : {T : Type 0} → List (Conjunct T) → List (Conjunct T) → Bool
few_pairs xs ys = leb (length xs * length ys) 16384

-- a merge that is made only where the second value is said to be a merge, else a union
abbrev pub narrow_either : {T : Type 0} → Bool → List (Conjunct T) → List (Conjunct T) → Bool
narrow_either true xs ys = true
narrow_either false xs ys = few_pairs xs ys

module _ {T : Type 0} (same : T → T → Bool) where
  -- both parts as one
  abbrev pub united_part : Part T → Part T → Part T
  united_part p q = part (united same p.terms q.terms)

  -- both records' parts, name by name
  abbrev pub united_fields : List (List ℕ × Part T) → List (List ℕ × Part T) → List (List ℕ × Part T)
  united_fields [] ys = []
  united_fields (x ∷ xs) [] = []
  united_fields (x ∷ xs) (y ∷ ys) = (x.0, united_part x.1 y.1) ∷ united_fields xs ys

  -- what two records have in common
  abbrev pub meet_records : List (List ℕ × Part T) → List (List ℕ × Part T) → List (Atom T)
  meet_records xs ys = cond (same_names xs ys) (atom.Record (united_fields xs ys) ∷ []) []

  -- what two atoms have in common: an atom, or none where their kinds or names differ
  abbrev pub meet : Atom T → Atom T → List (Atom T)
  meet atom.Null atom.Null = atom.Null ∷ []
  meet atom.Bool atom.Bool = atom.Bool ∷ []
  meet atom.Int atom.Int = atom.Int ∷ []
  meet (atom.Array p) (atom.Array q) = atom.Array (united_part p q) ∷ []
  meet (atom.Record xs) (atom.Record ys) = meet_records xs ys
  meet (atom.Record xs) atom.AnyRecord = atom.Record xs ∷ []
  meet atom.AnyRecord (atom.Record ys) = atom.Record ys ∷ []
  meet atom.AnyRecord atom.AnyRecord = atom.AnyRecord ∷ []
  meet _ _ = []

  -- the list, and the conjuncts with these positive atoms, each once
  abbrev pub with_atoms : List (Conjunct T) → List (Atom T) → List (Atom T) → List (Conjunct T)
  with_atoms made [] ns = made
  with_atoms made (a ∷ more) ns = with_atoms (with_conjunct same made (record { positive = a; negatives = kept a ns })) more ns

  -- the list, and what two conjuncts have in common
  abbrev pub with_pair : List (Conjunct T) → Conjunct T → Conjunct T → List (Conjunct T)
  with_pair made x y = with_atoms made (meet x.positive y.positive) (united_atoms same x.negatives y.negatives)

  -- the list, and what a conjunct has in common with each of a list
  abbrev pub with_pairs : List (Conjunct T) → Conjunct T → List (Conjunct T) → List (Conjunct T)
  with_pairs made x [] = made
  with_pairs made x (y ∷ ys) = with_pairs (with_pair made x y) x ys

  -- the list, and what each of a list has in common with each of another
  abbrev pub with_merge : List (Conjunct T) → List (Conjunct T) → List (Conjunct T) → List (Conjunct T)
  with_merge made [] ys = made
  with_merge made (x ∷ xs) ys = with_merge (with_pairs made x ys) xs ys

  -- what one of each list have in common, all pairs in order, each conjunct once
  abbrev pub merge : List (Conjunct T) → List (Conjunct T) → List (Conjunct T)
  merge xs ys = with_merge [] xs ys

  -- both lists in order, or their merge
  abbrev pub either : Bool → List (Conjunct T) → List (Conjunct T) → List (Conjunct T)
  either true xs ys = united_conjuncts same xs ys
  either false xs ys = merge xs ys

  -- the list, and these atoms without negatives
  abbrev pub with_plains : List (Conjunct T) → List (Atom T) → List (Conjunct T)
  with_plains made [] = made
  with_plains made (a ∷ more) = with_plains (with_conjunct same made (plain a)) more

  -- a conjunct taken out: its positive atom taken out, and its negatives taken in
  abbrev pub conjunct_out : Conjunct T → List (Conjunct T)
  conjunct_out c = with_plains (taken_out c.positive) c.negatives

  -- what is in the list and in none of the conjuncts
  abbrev pub merge_outs : List (Conjunct T) → List (Conjunct T) → List (Conjunct T)
  merge_outs made [] = made
  merge_outs made (c ∷ cs) = merge_outs (merge made (conjunct_out c)) cs

  -- a normal type taken out
  abbrev pub all_out : List (Conjunct T) → List (Conjunct T)
  all_out [] = kinds
  all_out (c ∷ cs) = merge_outs (conjunct_out c) cs

  -- a normal type taken in or out
  abbrev pub normal_or_out : Bool → List (Conjunct T) → List (Conjunct T)
  normal_or_out true cs = united_conjuncts same [] cs
  normal_or_out false cs = all_out cs

  -- each merge on the way has few pairs
  abbrev pub narrow_outs : List (Conjunct T) → List (Conjunct T) → Bool
  narrow_outs made [] = true
  narrow_outs made (c ∷ cs) = few_pairs made (conjunct_out c) && narrow_outs (merge made (conjunct_out c)) cs

  -- each merge on the way to a normal type taken out has few pairs
  abbrev pub narrow_all_out : List (Conjunct T) → Bool
  narrow_all_out [] = true
  narrow_all_out (c ∷ cs) = narrow_outs (conjunct_out c) cs

  -- each merge on the way to a normal type taken in or out has few pairs
  abbrev pub narrow_normal : Bool → List (Conjunct T) → Bool
  narrow_normal true cs = true
  narrow_normal false cs = narrow_all_out cs
