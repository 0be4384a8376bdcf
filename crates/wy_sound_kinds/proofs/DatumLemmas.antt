-- What programs hold: numbers, items, fields, copies.
use Rattle.std.proofs.Common.{◌≡◌, ◌⊎◌, inl, inr, ℕ, zero, suc, ◌+◌, ◌-◌, ◌^◌, ◌%◌, ◌<◌, ◌≤◌, List, [], ◌∷◌, length, Bool, true, false, cond, not, ◌&&◌, Option, Some, None, ℤ, pos, negsuc, int_le, int_lt, ◌≤ℤ◌, bytes_eq, refl, sym, ap, ◌∙◌, subst, arith}
use Rattle.std.specs.Int.{int_rem_euclid}
use Rattle.std.specs.Int.RustNames.{unsigned_abs}
use Rattle.std.proofs.lemmas.Int.{ints}
use Rattle.std.proofs.lemmas.Nat.{mod_below}
use Rattle.wy_lemmas.proofs.Choices.{at_most_test}
use Rattle.wy_value.specs.Datum.{Datum, Null, Truth, Whole, Array, Record, Data, no_items, item, Fields, no_fields, field}
use Rattle.wy_value.specs.Numbers.{is_int}
use Rattle.wy_value.specs.Seen.{data_of}
use Rattle.wy_value.specs.Values.{length_of, IsValue, AreValues, AreValueFields}
use Rattle.wy_value.specs.declared.bounds.TheConstants.{INT_MIN, INT_MAX}
use Rattle.wy_sound_walks.specs.wy_sem.Operations.{longest, nat_of, same_number, item_at, found_field, find, copies, is_index}
use Rattle.wy_sound_walks.specs.wy_sem.TypeTests.{few_enough}
use Rattle.wy_flow_spec.specs.wy_subtype_parts.Items.{IsItem}
use Rattle.wy_flow_spec.specs.wy_subtype_parts.Fields.{value_at}
use Rattle.wy_sound_kinds.specs.Laws.{ValuesAreBounded}
use Rattle.wy_sound_kinds.specs.Bounded.{IsBounded, AreBounded, FieldsBounded, AllBounded}

-- ---- numbers

pub length_is_int : (ds : Data) → few_enough ds ≡ true → is_int (pos (length_of ds)) ≡ true
unfolding longest
length_is_int ds h = grind (arith, ints)

rest_is_int : (n : ℕ) (y : ℤ) → n < unsigned_abs y → is_int y ≡ true → is_int (pos n) ≡ true
rest_is_int n (pos m) lt h = grind (arith, ints)
rest_is_int n (negsuc m) lt h = grind (arith, ints)

apart : (y : ℤ) → not (same_number y (pos 0)) ≡ true → 0 < unsigned_abs y
apart (pos zero) h = absurd cc
apart (pos (suc n)) h = omega arith
apart (negsuc n) h = omega arith

pub rest_bounded : (x y : ℤ) → not (same_number y (pos 0)) ≡ true → is_int y ≡ true → is_int (int_rem_euclid x y) ≡ true
rest_bounded (pos n) y e h = let lt = apart y e in let low = mod_below n (unsigned_abs y) lt in rest_is_int (n % unsigned_abs y) y low h
rest_bounded (negsuc n) y e h = let lt = apart y e in let low : unsigned_abs y - 1 - n % unsigned_abs y < unsigned_abs y = omega arith in rest_is_int (unsigned_abs y - 1 - n % unsigned_abs y) y low h

-- a number between two that are `int`s
pub between_is_int : (low high i : ℤ) → is_int low ≡ true → is_int high ≡ true → int_le low i ≡ true → int_lt i high ≡ true → is_int i ≡ true
between_is_int low high i a b c d = grind (arith, ints)

-- ---- items

pub index_below : (ds : Data) (i : ℤ) → is_index i ds ≡ true → nat_of i < length_of ds
index_below ds (pos n) h = grind (arith, ints)
index_below ds (negsuc n) h = absurd (none h) where
  none : (int_le (pos 0) (negsuc n) && int_lt (negsuc n) (pos (length_of ds))) ≡ true → ⊥
  none q = absurd cc

pub item_is : (ds : Data) (k : ℕ) → k < length_of ds → IsItem (item_at ds k) ds
item_is no_items k lt = absurd (omega arith)
item_is (item d ds) zero lt = inl refl
item_is (item d ds) (suc k) lt = inr (item_is ds k (omega arith))

pub item_bounded : (ds : Data) (k : ℕ) → AreBounded ds → IsBounded (item_at ds k)
item_bounded no_items k h = tt
item_bounded (item d ds) zero h = h.0
item_bounded (item d ds) (suc k) h = item_bounded ds k h.1

copies_length : (n : ℕ) (v : Datum) → length_of (copies n v) ≡ n
copies_length zero v = refl
copies_length (suc n) v = let e = copies_length n v in omega (arith, e)

pub copies_few : (z : ℤ) (v : Datum) → int_le z (pos longest) ≡ true → few_enough (copies (nat_of z) v) ≡ true
unfolding longest
copies_few (pos n) v h = ap (λ (k : ℕ). int_le (pos k) (pos longest)) (copies_length n v) ∙ h
copies_few (negsuc n) v h = refl

pub copies_bounded : (n : ℕ) (v : Datum) → IsBounded v → AreBounded (copies n v)
copies_bounded zero v h = tt
copies_bounded (suc n) v h = (h, copies_bounded n v h)

data_length : (vs : List Datum) → length_of (data_of vs) ≡ length vs
data_length [] = refl
data_length (v ∷ vs) = let e = data_length vs in omega (arith, e)

pub data_few : (vs : List Datum) (n : ℕ) → length vs ≡ n → n ≤ 2 ^ 63 - 1 → few_enough (data_of vs) ≡ true
unfolding longest
data_few vs n e le = let f = data_length vs in grind (arith, ints)

pub data_bounded : (vs : List Datum) → AllBounded vs → AreBounded (data_of vs)
data_bounded [] h = tt
data_bounded (v ∷ vs) h = (h.0, data_bounded vs h.1)

-- ---- fields

pub found_at : (fs : Fields) (name : List ℕ) → value_at name fs ≡ find fs name
found_at no_fields name = refl
found_at (field n d fs) name = by (bytes_eq n name) (found_at fs name) where
  by : (b : Bool) → value_at name fs ≡ find fs name → cond b (Some d) (value_at name fs) ≡ found_field b d (find fs name)
  by true e = refl
  by false e = e

pub field_bounded : (fs : Fields) (name : List ℕ) (d : Datum) → FieldsBounded fs → find fs name ≡ Some d → IsBounded d
field_bounded no_fields name d h e = absurd cc
field_bounded (field n x fs) name d h e = by (bytes_eq n name) e (λ q. field_bounded fs name d h.1 q) where
  same : (a b : Datum) → ◌≡◌ {A = Option Datum} (Some a) (Some b) → a ≡ b
  same a b p = cc

  by : (b : Bool) → found_field b x (find fs name) ≡ Some d → (find fs name ≡ Some d → IsBounded d) → IsBounded d
  by true q next = subst IsBounded (same x d q) h.0
  by false q next = next q

-- ---- values

value_is_int : (z : ℤ) → (INT_MIN ≤ℤ z) × (z ≤ℤ INT_MAX) → is_int z ≡ true
value_is_int z h = rw (at_most_test INT_MIN z h.0, at_most_test z INT_MAX h.1) refl

value_few : (ds : Data) → length_of ds ≤ 2 ^ 63 - 1 → few_enough ds ≡ true
unfolding longest
value_few ds h = grind (arith, ints)

mutual
  value_bounded : (d : Datum) → IsValue d → IsBounded d
  value_bounded Null h = tt
  value_bounded (Truth b) h = tt
  value_bounded (Whole z) h = value_is_int z h
  value_bounded (Array ds) h = (value_few ds h.0, items_bounded ds h.1)
  value_bounded (Record fs) h = (h.0, values_bounded fs h.1)

  items_bounded : (ds : Data) → AreValues ds → AreBounded ds
  items_bounded no_items h = tt
  items_bounded (item d ds) h = (value_bounded d h.0, items_bounded ds h.1)

  values_bounded : (fs : Fields) → AreValueFields fs → FieldsBounded fs
  values_bounded no_fields h = tt
  values_bounded (field n d fs) h = (value_bounded d h.1, values_bounded fs h.2)

pub values_are_bounded : ValuesAreBounded
values_are_bounded d h = value_bounded d h
