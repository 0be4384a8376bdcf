-- What a term or formula means. The meaning is total, and one recursion gives it for all three sorts.
use Rattle.std.specs.Prelude.{ℕ, zero, suc, List, [], ◌∷◌, map, Bool, true, false, not, ◌&&◌, ◌||◌, ◌==◌, if◌then◌else◌, bytes_eq, ℤ, pos, negsuc, neg_ℤ, ◌+ℤ◌, ◌-ℤ◌, ◌*ℤ◌, int_lt, slice_index_or}
use Rattle.wy_value.specs.Datum.{Datum, Null, Truth, Whole, Array, Record}
use Rattle.wy_term.specs.Term.{Symbol, Term, Of, Parts, no_parts, part}
use Rattle.wy_term.specs.Term as term
use Rattle.wy_term.specs.Data.{quotient, remainder, number_in, length_in, element, with_element, repeated, field_in, with_field, fields_with, items_with, is_of_kind, same_datum}

-- what names stand for: each Val name for a datum, each Int name for a whole number, by word and number, and each named type, by its number, for a set of data
pub record Names : Type 0 where
  pub datum_of : List ℕ → ℕ → Datum
  pub number_of : List ℕ → ℕ → ℤ
  pub is_member : ℕ → Datum → Bool

-- the same names, but for one Int name
abbrev pub with_number : Names → List ℕ → ℕ → ℤ → Names
with_number names word n z = record {
  datum_of = names.datum_of;
  number_of = λ w m. if bytes_eq w word && (m == n) then z else names.number_of w m;
  is_member = names.is_member;
}

-- the same names, but for one Val name
abbrev pub with_datum : Names → List ℕ → ℕ → Datum → Names
with_datum names word n d = record {
  datum_of = λ w m. if bytes_eq w word && (m == n) then d else names.datum_of w m;
  number_of = names.number_of;
  is_member = names.is_member;
}

-- What a term is as a number, as a datum and as a truth value. Its sort says which of them counts; the others are 0, null and false.
pub record Sense : Type 0 where
  pub number : ℤ
  pub datum : Datum
  pub truth : Bool

-- an Int term with this number
abbrev pub numeric : ℤ → Sense
numeric z = record { number = z; datum = Null; truth = false }

-- a Val term with this datum
abbrev pub valued : Datum → Sense
valued d = record { number = pos 0; datum = d; truth = false }

-- a formula with this truth value
abbrev pub logical : Bool → Sense
logical b = record { number = pos 0; datum = Null; truth = b }

-- the first number is at most the second
abbrev pub at_most : ℤ → ℤ → Bool
at_most a b = not (int_lt b a)

-- how many numbers there are from the first one on and below the second
abbrev pub distance : ℤ → ℕ
distance (pos n) = n
distance (negsuc n) = 0

-- the test holds of each of so many numbers from the first one on
abbrev pub each_from : ℤ → ℕ → (ℤ → Bool) → Bool
each_from z zero test = true
each_from z (suc n) test = test z && each_from (z +ℤ pos 1) n test

-- the test holds of one of so many numbers from the first one on
abbrev pub any_from : ℤ → ℕ → (ℤ → Bool) → Bool
any_from z zero test = false
any_from z (suc n) test = test z || any_from (z +ℤ pos 1) n test

-- each of these holds
abbrev pub all_hold : List (Names → Sense) → Names → Bool
all_hold [] names = true
all_hold (f ∷ fs) names = (f names).truth && all_hold fs names

-- one of these holds
abbrev pub any_holds : List (Names → Sense) → Names → Bool
any_holds [] names = false
any_holds (f ∷ fs) names = (f names).truth || any_holds fs names

-- the sense of the part with this number, from 0
abbrev pub sense_at : List (Names → Sense) → ℕ → Names → Sense
sense_at parts k = slice_index_or parts k (λ names. numeric (pos 0))

abbrev pub number_at : List (Names → Sense) → ℕ → Names → ℤ
number_at parts k names = (sense_at parts k names).number

abbrev pub datum_at : List (Names → Sense) → ℕ → Names → Datum
datum_at parts k names = (sense_at parts k names).datum

abbrev pub truth_at : List (Names → Sense) → ℕ → Names → Bool
truth_at parts k names = (sense_at parts k names).truth

abbrev pub data_in : List (Names → Sense) → Names → List Datum
data_in parts names = map (λ (p : Names → Sense). (p names).datum) parts

-- what a symbol makes of the senses of its parts
abbrev pub meaning : Symbol → List (Names → Sense) → Names → Sense
meaning (term.number z) ps names = numeric z
meaning (term.int_name word n) ps names = numeric (names.number_of word n)
meaning term.add ps names = numeric (number_at ps 0 names +ℤ number_at ps 1 names)
meaning term.sub ps names = numeric (number_at ps 0 names -ℤ number_at ps 1 names)
meaning term.neg ps names = numeric (neg_ℤ (number_at ps 0 names))
meaning term.mul ps names = numeric (number_at ps 0 names *ℤ number_at ps 1 names)
meaning term.div ps names = numeric (quotient (number_at ps 0 names) (number_at ps 1 names))
meaning term.rem ps names = numeric (remainder (number_at ps 0 names) (number_at ps 1 names))
meaning term.num ps names = numeric (number_in (datum_at ps 0 names))
meaning term.len ps names = numeric (length_in (datum_at ps 0 names))
meaning (term.val_name word n) ps names = valued (names.datum_of word n)
meaning term.null ps names = valued Null
meaning (term.truth b) ps names = valued (Truth b)
meaning term.int ps names = valued (Whole (number_at ps 0 names))
meaning term.bool ps names = valued (Truth (truth_at ps 0 names))
meaning term.array ps names = valued (Array (items_with (data_in ps names)))
meaning term.repeat ps names = valued (repeated (datum_at ps 0 names) (number_at ps 1 names))
meaning term.update ps names = valued (with_element (datum_at ps 0 names) (number_at ps 1 names) (datum_at ps 2 names))
meaning term.get ps names = valued (element (datum_at ps 0 names) (number_at ps 1 names))
meaning (term.fields ns) ps names = valued (Record (fields_with ns (data_in ps names)))
meaning (term.field name) ps names = valued (field_in (datum_at ps 0 names) name)
meaning (term.set_field name) ps names = valued (with_field (datum_at ps 0 names) name (datum_at ps 1 names))
meaning term.at_most ps names = logical (at_most (number_at ps 0 names) (number_at ps 1 names))
meaning term.equal ps names = logical (same_datum (datum_at ps 0 names) (datum_at ps 1 names))
meaning (term.of_kind kind) ps names = logical (is_of_kind kind (datum_at ps 0 names))
meaning (term.in_type n) ps names = logical (names.is_member n (datum_at ps 0 names))
meaning (term.every word n) ps names = logical (each_from (number_at ps 0 names) (distance (number_at ps 1 names -ℤ number_at ps 0 names)) (λ z. truth_at ps 2 (with_number names word n z)))
meaning (term.exists word n) ps names = logical (any_from (number_at ps 0 names) (distance (number_at ps 1 names -ℤ number_at ps 0 names)) (λ z. truth_at ps 2 (with_number names word n z)))
meaning term.denied ps names = logical (not (truth_at ps 0 names))
meaning term.all_of ps names = logical (all_hold ps names)
meaning term.any_of ps names = logical (any_holds ps names)

abbrev mutual
  -- the sense of a term where its names stand for these
  pub sense_of : Term → Names → Sense
  sense_of (Of symbol parts) = meaning symbol (senses_of parts)

  -- the senses of the parts
  pub senses_of : Parts → List (Names → Sense)
  senses_of no_parts = []
  senses_of (part t rest) = sense_of t ∷ senses_of rest

abbrev pub sense : Names → Term → Sense
sense names t = sense_of t names
