-- What arrays, records and quotients are after a change.
use Rattle.std.proofs.Common.{inl, inr, ◌≡◌, ◌<◌, ℕ, zero, suc, true, false, ℤ, pos, negsuc, ◌≤ℤ◌, ◌<ℤ◌, Some, refl, ap, arith}
use Rattle.std.specs.Prelude.{◌⊎◌}
use Rattle.std.proofs.lemmas.Bool.Decides.{Decides-int_eq}
use Rattle.std.proofs.lemmas.Int.{ints}
use Rattle.wy_term_subst.proofs.wy_lemmas_proofs.Options.{some}
use Rattle.wy_term_subst.specs.wy_value.Datum.{Datum, Null, Truth, Whole, Array, Record, Data, no_items, item}
use Rattle.wy_term_subst.specs.wy_term.Term.{DataKind, null_kind, bool_kind, int_kind, array_kind, record_kind, Term, Parts, no_parts, part}
use Rattle.wy_term_subst.specs.wy_term.Meaning.{Names, sense, senses_of, data_in}
use Rattle.wy_term_subst.specs.wy_term.Data.{number_in, length_of, length_in, nth, item_at, element, with_nth, with_item_at, with_element, copies, repeated, items_with, is_of_kind, same_datum}
use Rattle.wy_facts.specs.Schema.{nth_of, element_numbered}

-- ---- arrays

natural : (n : ℕ) → pos 0 ≤ℤ pos n
natural n = omega (arith, ints)

pub length_natural : (d : Datum) → pos 0 ≤ℤ length_in d
length_natural Null = natural 0
length_natural (Truth b) = natural 0
length_natural (Whole z) = natural 0
length_natural (Array items) = natural (length_of items)
length_natural (Record fields) = natural 0

length-copies : (d : Datum) (n : ℕ) → length_of (copies d n) ≡ n
length-copies d zero = refl
length-copies d (suc n) = ap suc (length-copies d n)

pub length-repeated : (d : Datum) (z : ℤ) → pos 0 ≤ℤ z → length_in (repeated d z) ≡ z
length-repeated d (pos n) h = ap pos (length-copies d n)
length-repeated d (negsuc n) h = absurd (omega (arith, ints, h))

length-with_nth : (items : Data) (k : ℕ) (e : Datum) → length_of (with_nth items k e) ≡ length_of items
length-with_nth no_items k e = refl
length-with_nth (item d rest) zero e = refl
length-with_nth (item d rest) (suc k) e = ap suc (length-with_nth rest k e)

length-with_item_at : (items : Data) (z : ℤ) (e : Datum) → length_of (with_item_at items z e) ≡ length_of items
length-with_item_at items (pos k) e = length-with_nth items k e
length-with_item_at items (negsuc k) e = refl

pub length-with_element : (d : Datum) (z : ℤ) (e : Datum) → length_in (with_element d z e) ≡ length_in d
length-with_element Null z e = refl
length-with_element (Truth b) z e = refl
length-with_element (Whole w) z e = refl
length-with_element (Array items) z e = ap pos (length-with_item_at items z e)
length-with_element (Record fields) z e = refl

nth-copies : (d : Datum) (n k : ℕ) → k < n → nth (copies d n) k ≡ d
nth-copies d zero k lt = absurd (omega (arith, lt))
nth-copies d (suc n) zero lt = refl
nth-copies d (suc n) (suc k) lt = nth-copies d n k (omega (arith, lt))

below_pos : (k n : ℕ) → pos k <ℤ pos n → k < n
below_pos k n h = omega (arith, ints, h)

pub element-repeated : (d : Datum) (n i : ℤ) → pos 0 ≤ℤ i → i <ℤ n → element (repeated d n) i ≡ d
element-repeated d (pos n) (pos i) low high = nth-copies d n i (below_pos i n high)
element-repeated d (pos n) (negsuc i) low high = absurd (omega (arith, ints, low))
element-repeated d (negsuc n) (pos i) low high = absurd (omega (arith, ints, high))
element-repeated d (negsuc n) (negsuc i) low high = absurd (omega (arith, ints, low))

nth-with_nth : (items : Data) (k : ℕ) (e : Datum) → k < length_of items → nth (with_nth items k e) k ≡ e
nth-with_nth no_items k e lt = absurd (omega (arith, lt))
nth-with_nth (item d rest) zero e lt = refl
nth-with_nth (item d rest) (suc k) e lt = nth-with_nth rest k e (omega (arith, lt))

item-with_item_at : (items : Data) (z : ℤ) (e : Datum) → pos 0 ≤ℤ z → z <ℤ pos (length_of items) → item_at (with_item_at items z e) z ≡ e
item-with_item_at items (pos k) e low high = nth-with_nth items k e (below_pos k (length_of items) high)
item-with_item_at items (negsuc k) e low high = absurd (omega (arith, ints, low))

beyond : (z : ℤ) → pos 0 ≤ℤ z → z <ℤ pos 0 → ⊥
beyond z low high = omega (arith, ints, low, high)

pub element-with_element : (d : Datum) (z : ℤ) (e : Datum) → pos 0 ≤ℤ z → z <ℤ length_in d → element (with_element d z e) z ≡ e
element-with_element Null z e low high = absurd (beyond z low high)
element-with_element (Truth b) z e low high = absurd (beyond z low high)
element-with_element (Whole w) z e low high = absurd (beyond z low high)
element-with_element (Array items) z e low high = item-with_item_at items z e low high
element-with_element (Record fields) z e low high = absurd (beyond z low high)

nth-elsewhere : (items : Data) (k j : ℕ) (e : Datum) → (k ≡ j → ⊥) → nth (with_nth items k e) j ≡ nth items j
nth-elsewhere no_items k j e apart = refl
nth-elsewhere (item d rest) zero zero e apart = absurd (apart refl)
nth-elsewhere (item d rest) zero (suc j) e apart = refl
nth-elsewhere (item d rest) (suc k) zero e apart = refl
nth-elsewhere (item d rest) (suc k) (suc j) e apart = nth-elsewhere rest k j e (λ same. apart (ap suc same))

item-elsewhere : (items : Data) (z y : ℤ) (e : Datum) → (z ≡ y → ⊥) → item_at (with_item_at items z e) y ≡ item_at items y
item-elsewhere items (pos k) (pos j) e apart = nth-elsewhere items k j e (λ same. apart (ap pos same))
item-elsewhere items (pos k) (negsuc j) e apart = refl
item-elsewhere items (negsuc k) y e apart = refl

pub element-elsewhere : (d : Datum) (z y : ℤ) (e : Datum) → (z ≡ y → ⊥) → element (with_element d z e) y ≡ element d y
element-elsewhere Null z y e apart = refl
element-elsewhere (Truth b) z y e apart = refl
element-elsewhere (Whole w) z y e apart = refl
element-elsewhere (Array items) z y e apart = item-elsewhere items z y e apart
element-elsewhere (Record fields) z y e apart = refl

nth-items : (names : Names) (vs : Parts) (k : ℕ) (v : Term) → nth_of vs k ≡ Some v → nth (items_with (data_in (senses_of vs) names)) k ≡ (sense names v).datum
nth-items names no_parts k v e = absurd cc
nth-items names (part t ts) zero v e =
    let is : t ≡ v = one t v e in
    ap (λ (u : Term). (sense names u).datum) is
  where
    one : (t v : Term) → some t ≡ some v → t ≡ v
    one t v e = cc
nth-items names (part t ts) (suc k) v e = nth-items names ts k v e

-- an element of an array that is written out
pub element-items : (names : Names) (vs : Parts) (z : ℤ) (v : Term) → element_numbered vs z ≡ Some v → element (Array (items_with (data_in (senses_of vs) names))) z ≡ (sense names v).datum
element-items names vs (pos k) v e = nth-items names vs k v e
element-items names vs (negsuc k) v e = absurd cc

-- ---- kinds

pub kind-with_element : (kind : DataKind) (d : Datum) (z : ℤ) (e : Datum) → is_of_kind kind (with_element d z e) ≡ is_of_kind kind d
kind-with_element kind Null z e = refl
kind-with_element kind (Truth b) z e = refl
kind-with_element kind (Whole w) z e = refl
kind-with_element null_kind (Array items) z e = refl
kind-with_element bool_kind (Array items) z e = refl
kind-with_element int_kind (Array items) z e = refl
kind-with_element array_kind (Array items) z e = refl
kind-with_element (record_kind ns) (Array items) z e = refl
kind-with_element kind (Record fields) z e = refl

-- ---- numbers

-- equal data have equal numbers
pub number_same : (d e : Datum) → same_datum d e ≡ true → number_in d ≡ number_in e
number_same Null Null h = refl
number_same (Truth a) (Truth b) h = refl
number_same (Whole a) (Whole b) h = (Decides-int_eq a b).0 h
number_same (Array items) (Array others) h = refl
number_same (Record fields) (Record others) h = refl
number_same d e h = absurd cc

-- ---- data by their kinds

pub is_null : (d : Datum) → is_of_kind null_kind d ≡ true → d ≡ Null
is_null Null h = refl
is_null d h = absurd cc

pub is_bool : (d : Datum) → is_of_kind bool_kind d ≡ true → (d ≡ Truth true) ⊎ (d ≡ Truth false)
is_bool (Truth true) h = inl refl
is_bool (Truth false) h = inr refl
is_bool d h = absurd cc

pub is_int : (d : Datum) → is_of_kind int_kind d ≡ true → d ≡ Whole (number_in d)
is_int (Whole z) h = refl
is_int d h = absurd cc
