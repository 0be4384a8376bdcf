-- What parts, atoms and conjuncts say of a value. Of the value's own parts it is only known which terms they are in, by which reading.
use Rattle.std.specs.Prelude.{ℕ, List, [], ◌∷◌, Bool, true, false, not, ◌&&◌, ◌||◌}
use Rattle.std.specs.Str.{bytes_eq}
use Rattle.wy_types.specs.declared.conjuncts.Signed.{Signed}
use Rattle.wy_types.specs.declared.conjuncts.Part.{Part}
use Rattle.wy_types.specs.declared.conjuncts.Atom.{Atom}
use Rattle.wy_types.specs.declared.conjuncts.Atom.TheVariants as atom
use Rattle.wy_types.specs.declared.conjuncts.Conjunct.{Conjunct}

-- a value, with what its parts tell
pub data Shape (T : Type 0) : Type 0 where
  NullShape : Shape T
  BoolShape : Shape T
  IntShape : Shape T
  ArrayShape : (items : List (Bool → T → Bool)) → Shape T
  RecordShape : (names : List (List ℕ)) (values : List (Bool → T → Bool)) → Shape T

-- is null
abbrev pub is_null : {T : Type 0} → Shape T → Bool
is_null NullShape = true
is_null _ = false

-- is a truth value
abbrev pub is_bool : {T : Type 0} → Shape T → Bool
is_bool BoolShape = true
is_bool _ = false

-- is a number
abbrev pub is_int : {T : Type 0} → Shape T → Bool
is_int IntShape = true
is_int _ = false

-- is a record
abbrev pub is_record : {T : Type 0} → Shape T → Bool
is_record (RecordShape names values) = true
is_record _ = false

-- b, or where a sign is out its denial
abbrev pub signed_as : Bool → Bool → Bool
signed_as b true = b
signed_as b false = not b

-- is in all of the terms
abbrev pub part_in : {T : Type 0} → (Bool → T → Bool) → List (Signed T) → Bool
part_in r [] = true
part_in r (s ∷ ss) = signed_as (r s.up s.term) s.inside && part_in r ss

-- each item is in all of the terms
abbrev pub each_in : {T : Type 0} → List (Bool → T → Bool) → List (Signed T) → Bool
each_in [] p = true
each_in (r ∷ rs) p = part_in r p && each_in rs p

-- the fields have these names, and each value is in its part
abbrev pub fields_in : {T : Type 0} → List (List ℕ) → List (Bool → T → Bool) → List (List ℕ × Part T) → Bool
fields_in [] [] [] = true
fields_in (n ∷ ns) (r ∷ rs) (f ∷ fs) = bytes_eq n f.0 && (part_in r f.1.terms && fields_in ns rs fs)
fields_in _ _ _ = false

-- is an array of such items
abbrev pub array_atom_in : {T : Type 0} → Shape T → List (Signed T) → Bool
array_atom_in (ArrayShape items) p = each_in items p
array_atom_in _ p = false

-- is a record of such fields
abbrev pub record_atom_in : {T : Type 0} → Shape T → List (List ℕ × Part T) → Bool
record_atom_in (RecordShape names values) fs = fields_in names values fs
record_atom_in _ fs = false

-- is in the atom
abbrev pub atom_in : {T : Type 0} → Shape T → Atom T → Bool
atom_in shape atom.Null = is_null shape
atom_in shape atom.Bool = is_bool shape
atom_in shape atom.Int = is_int shape
atom_in shape (atom.Array p) = array_atom_in shape p.terms
atom_in shape (atom.Record fs) = record_atom_in shape fs
atom_in shape atom.AnyRecord = is_record shape

-- is in none of the atoms
abbrev pub none_in : {T : Type 0} → Shape T → List (Atom T) → Bool
none_in shape [] = true
none_in shape (a ∷ more) = not (atom_in shape a) && none_in shape more

-- is in the conjunct
abbrev pub conjunct_in : {T : Type 0} → Shape T → Conjunct T → Bool
conjunct_in shape c = atom_in shape c.positive && none_in shape c.negatives

-- is in one of the conjuncts
abbrev pub any_in : {T : Type 0} → Shape T → List (Conjunct T) → Bool
any_in shape [] = false
any_in shape (c ∷ cs) = conjunct_in shape c || any_in shape cs
