-- A test of which data a program may hold.
use Rattle.std.proofs.Common.{◌≡◌, ℕ, List, [], ◌∷◌, Bool, true, ◌&&◌, refl, ap}
use Rattle.std.proofs.lemmas.Bool.{and_parts}
use Rattle.std.specs.Cmp.Lexicographic.{slice_cmp}
use Rattle.std.specs.Ordering.{nat_cmp, is_lt}
use Rattle.std.specs.declared.cmp.Ordering.{Ordering}
use Rattle.std.specs.declared.cmp.Ordering.TheVariants.{Less, Equal, Greater}
use Rattle.std.specs.List.{AllByRecursion}
use Rattle.std.specs.List.Sorted.{IsStrictlySortedBy}
use Rattle.wy_lemmas.proofs.Choices.{both_true}
use Rattle.wy_value.specs.Datum.{Datum, Null, Truth, Whole, Array, Record, Data, no_items, item, Fields, no_fields, field}
use Rattle.wy_value.specs.Values.{Rise, names_of}
use Rattle.wy_value.specs.Numbers.{is_int}
use Rattle.wy_sound_programs.specs.wy_sem.TypeTests.{few_enough}
use Rattle.wy_sound_programs.specs.wy_sound_kinds.Bounded.{IsBounded, AreBounded, FieldsBounded, AllBounded}

-- ---- names that rise

abbrev pub goes_first : List ℕ → List (List ℕ) → Bool
goes_first n [] = true
goes_first n (m ∷ ms) = is_lt (slice_cmp nat_cmp n m) && goes_first n ms

abbrev pub rises : List (List ℕ) → Bool
rises [] = true
rises (n ∷ ns) = goes_first n ns && rises ns

less_of : (o : Ordering) → is_lt o ≡ true → o ≡ Less
less_of Less e = refl
less_of Equal e = absurd cc
less_of Greater e = absurd cc

goes_is : (n : List ℕ) (ms : List (List ℕ)) → goes_first n ms ≡ true → AllByRecursion (λ m. slice_cmp nat_cmp n m ≡ Less) ms
goes_is n [] e = tt
goes_is n (m ∷ ms) e = let two = and_parts (is_lt (slice_cmp nat_cmp n m)) (goes_first n ms) e in (less_of (slice_cmp nat_cmp n m) two.0, goes_is n ms two.1)

is_going : (n : List ℕ) (ms : List (List ℕ)) → AllByRecursion (λ m. slice_cmp nat_cmp n m ≡ Less) ms → goes_first n ms ≡ true
is_going n [] h = refl
is_going n (m ∷ ms) h = both_true (is_lt (slice_cmp nat_cmp n m)) (goes_first n ms) (ap is_lt h.0) (is_going n ms h.1)

rise_is : (ns : List (List ℕ)) → rises ns ≡ true → Rise ns
unfolding IsStrictlySortedBy
rise_is [] e = tt
rise_is (n ∷ ns) e = let two = and_parts (goes_first n ns) (rises ns) e in (goes_is n ns two.0, rise_is ns two.1)

is_rising : (ns : List (List ℕ)) → Rise ns → rises ns ≡ true
unfolding IsStrictlySortedBy
is_rising [] h = refl
is_rising (n ∷ ns) h = both_true (goes_first n ns) (rises ns) (is_going n ns h.0) (is_rising ns h.1)

-- ---- data

abbrev mutual
  pub is_held : Datum → Bool
  is_held Null = true
  is_held (Truth b) = true
  is_held (Whole z) = is_int z
  is_held (Array ds) = few_enough ds && are_held ds
  is_held (Record fs) = rises (names_of fs) && parts_held fs

  pub are_held : Data → Bool
  are_held no_items = true
  are_held (item d ds) = is_held d && are_held ds

  pub parts_held : Fields → Bool
  parts_held no_fields = true
  parts_held (field n d fs) = is_held d && parts_held fs

mutual
  pub held_is : (d : Datum) → is_held d ≡ true → IsBounded d
  held_is Null e = tt
  held_is (Truth b) e = tt
  held_is (Whole z) e = e
  held_is (Array ds) e = let two = and_parts (few_enough ds) (are_held ds) e in (two.0, items_held ds two.1)
  held_is (Record fs) e = let two = and_parts (rises (names_of fs)) (parts_held fs) e in (rise_is (names_of fs) two.0, fields_held fs two.1)

  items_held : (ds : Data) → are_held ds ≡ true → AreBounded ds
  items_held no_items e = tt
  items_held (item d ds) e = let two = and_parts (is_held d) (are_held ds) e in (held_is d two.0, items_held ds two.1)

  fields_held : (fs : Fields) → parts_held fs ≡ true → FieldsBounded fs
  fields_held no_fields e = tt
  fields_held (field n d fs) e = let two = and_parts (is_held d) (parts_held fs) e in (held_is d two.0, fields_held fs two.1)

mutual
  pub is_holding : (d : Datum) → IsBounded d → is_held d ≡ true
  is_holding Null h = refl
  is_holding (Truth b) h = refl
  is_holding (Whole z) h = h
  is_holding (Array ds) h = both_true (few_enough ds) (are_held ds) h.0 (items_holding ds h.1)
  is_holding (Record fs) h = both_true (rises (names_of fs)) (parts_held fs) (is_rising (names_of fs) h.0) (fields_holding fs h.1)

  items_holding : (ds : Data) → AreBounded ds → are_held ds ≡ true
  items_holding no_items h = refl
  items_holding (item d ds) h = both_true (is_held d) (are_held ds) (is_holding d h.0) (items_holding ds h.1)

  fields_holding : (fs : Fields) → FieldsBounded fs → parts_held fs ≡ true
  fields_holding no_fields h = refl
  fields_holding (field n d fs) h = both_true (is_held d) (parts_held fs) (is_holding d h.0) (fields_holding fs h.1)

-- each of the data
abbrev pub all_held : List Datum → Bool
all_held [] = true
all_held (d ∷ ds) = is_held d && all_held ds

pub all_held_are : (ds : List Datum) → all_held ds ≡ true → AllBounded ds
all_held_are [] e = tt
all_held_are (d ∷ ds) e = let two = and_parts (is_held d) (all_held ds) e in (held_is d two.0, all_held_are ds two.1)

pub all_are_held : (ds : List Datum) → AllBounded ds → all_held ds ≡ true
all_are_held [] h = refl
all_are_held (d ∷ ds) h = both_true (is_held d) (all_held ds) (is_holding d h.0) (all_are_held ds h.1)
