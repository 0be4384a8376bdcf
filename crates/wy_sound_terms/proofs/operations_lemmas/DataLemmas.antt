-- What the semantics and the meaning of terms do to data is the same.
use Rattle.std.proofs.Common.{◌≡◌, ℕ, zero, suc, ◌+◌, ◌≤◌, ◌<◌, List, [], ◌∷◌, Bool, true, false, cond, not, ◌&&◌, ◌||◌, ℤ, pos, negsuc, int_le, int_lt, Option, Some, None, bytes_eq, refl, sym, ap, ◌∙◌, arith}
use Rattle.std.specs.Bool.{beq}
use Rattle.std.proofs.lemmas.Int.{ints}
use Rattle.wy_term_subst.specs.wy_value.Datum.{Datum, Null, Truth, Whole, Array, Record, Data, no_items, item, Fields, no_fields, field}
use Rattle.wy_term_subst.specs.wy_value.Seen.{data_of}
use Rattle.wy_term_subst.specs.wy_value.Values as values
use Rattle.wy_term_subst.specs.wy_term.Data as shapes
use Rattle.wy_vc_spec.specs.wy_sem.Operations.{nat_of, agrees, same, same_items, same_fields, item_at, set_item, found_field, find, set_field, copies, is_index}
use Rattle.wy_sound_terms.proofs.operations_lemmas.NumberLemmas.{same_number_is}

beq_is : (a b : Bool) → beq a b ≡ agrees a b
beq_is true true = refl
beq_is true false = refl
beq_is false true = refl
beq_is false false = refl

mutual
  pub same_is : (d e : Datum) → shapes.same_datum d e ≡ same d e
  same_is Null Null = refl
  same_is Null (Truth c) = refl
  same_is Null (Whole y) = refl
  same_is Null (Array es) = refl
  same_is Null (Record gs) = refl
  same_is (Truth b) Null = refl
  same_is (Truth b) (Truth c) = beq_is b c
  same_is (Truth b) (Whole y) = refl
  same_is (Truth b) (Array es) = refl
  same_is (Truth b) (Record gs) = refl
  same_is (Whole x) Null = refl
  same_is (Whole x) (Truth c) = refl
  same_is (Whole x) (Whole y) = same_number_is x y
  same_is (Whole x) (Array es) = refl
  same_is (Whole x) (Record gs) = refl
  same_is (Array ds) Null = refl
  same_is (Array ds) (Truth c) = refl
  same_is (Array ds) (Whole y) = refl
  same_is (Array ds) (Array es) = items_are ds es
  same_is (Array ds) (Record gs) = refl
  same_is (Record fs) Null = refl
  same_is (Record fs) (Truth c) = refl
  same_is (Record fs) (Whole y) = refl
  same_is (Record fs) (Array es) = refl
  same_is (Record fs) (Record gs) = fields_are fs gs

  items_are : (ds es : Data) → shapes.same_data ds es ≡ same_items ds es
  items_are no_items no_items = refl
  items_are no_items (item e es) = refl
  items_are (item d ds) no_items = refl
  items_are (item d ds) (item e es) = rw (same_is d e, items_are ds es) refl

  fields_are : (fs gs : Fields) → shapes.same_fields fs gs ≡ same_fields fs gs
  fields_are no_fields no_fields = refl
  fields_are no_fields (field o e gs) = refl
  fields_are (field n d fs) no_fields = refl
  fields_are (field n d fs) (field o e gs) = rw (same_is d e, fields_are fs gs) refl

-- ---- arrays

pub length_is : (ds : Data) → shapes.length_of ds ≡ values.length_of ds
length_is no_items = refl
length_is (item d ds) = let e = length_is ds in omega (arith, e)

pub nth_is : (ds : Data) (k : ℕ) → shapes.nth ds k ≡ item_at ds k
nth_is no_items k = refl
nth_is (item d ds) zero = refl
nth_is (item d ds) (suc k) = nth_is ds k

pub element_is : (ds : Data) (i : ℤ) → is_index i ds ≡ true → shapes.item_at ds i ≡ item_at ds (nat_of i)
element_is ds (pos k) e = nth_is ds k
element_is ds (negsuc k) e = absurd (none e) where
  none : (int_le (pos 0) (negsuc k) && int_lt (negsuc k) (pos (values.length_of ds))) ≡ true → ⊥
  none q = absurd cc

pub with_nth_is : (ds : Data) (k : ℕ) (v : Datum) → shapes.with_nth ds k v ≡ set_item ds k v
with_nth_is no_items k v = refl
with_nth_is (item d ds) zero v = refl
with_nth_is (item d ds) (suc k) v = ap (item d) (with_nth_is ds k v)

pub copies_are : (d : Datum) (n : ℕ) → shapes.copies d n ≡ copies n d
copies_are d zero = refl
copies_are d (suc n) = ap (item d) (copies_are d n)

pub repeated_is : (d : Datum) (z : ℤ) → int_le (pos 0) z ≡ true → shapes.repeated d z ≡ Array (copies (nat_of z) d)
repeated_is d (pos n) e = ap Array (copies_are d n)
repeated_is d (negsuc n) e = absurd cc

pub items_with_is : (ds : List Datum) → shapes.items_with ds ≡ data_of ds
items_with_is [] = refl
items_with_is (d ∷ ds) = ap (item d) (items_with_is ds)

-- ---- records

pub field_is : (fs : Fields) (name : List ℕ) (d : Datum) → find fs name ≡ Some d → shapes.field_of fs name ≡ d
field_is no_fields name d e = absurd cc
field_is (field n x fs) name d e = by (bytes_eq n name) e (λ q. field_is fs name d q) where
  by : (b : Bool) → found_field b x (find fs name) ≡ Some d → (find fs name ≡ Some d → shapes.field_of fs name ≡ d) → cond b x (shapes.field_of fs name) ≡ d
  by true q next = cc
  by false q next = next q
