-- Data are the same by structure exactly where they are one datum.
use Rattle.std.proofs.Common.{◌≡◌, Bool, true, false, ◌&&◌, ℤ, refl, ap, arith}
use Rattle.std.specs.Prelude.{int_le, bytes_eq}
use Rattle.std.proofs.lemmas.Int.{ints}
use Rattle.std.proofs.lemmas.Slice.Eq.{bytes_eq-Decides}
use Rattle.wy_lemmas.proofs.Choices.{both_parts as both, both_true as joined}
use Rattle.wy_sem.proofs.SharedLemmas.{agrees_self}
use Rattle.wy_value.specs.Datum.{Datum, Null, Truth, Whole, Array, Record, Data, no_items, item, Fields, no_fields, field}
use Rattle.wy_sem.specs.Operations.{agrees, same_number, same, same_items, same_fields}

agrees_is : (a b : Bool) → agrees a b ≡ true → a ≡ b
agrees_is true true h = refl
agrees_is true false h = absurd (cc)
agrees_is false true h = absurd (cc)
agrees_is false false h = refl

number_self : (x : ℤ) → same_number x x ≡ true
number_self x = grind (arith, ints)

number_is : (x y : ℤ) → same_number x y ≡ true → x ≡ y
number_is x y h = let two = both (int_le x y) (int_le y x) h in grind (arith, ints)

mutual
  pub same_self : (d : Datum) → same d d ≡ true
  same_self Null = refl
  same_self (Truth b) = agrees_self b
  same_self (Whole x) = number_self x
  same_self (Array ds) = items_self ds
  same_self (Record fs) = fields_self fs

  items_self : (ds : Data) → same_items ds ds ≡ true
  items_self no_items = refl
  items_self (item d ds) = joined (same d d) (same_items ds ds) (same_self d) (items_self ds)

  fields_self : (fs : Fields) → same_fields fs fs ≡ true
  fields_self no_fields = refl
  fields_self (field n d fs) = joined (bytes_eq n n) (same d d && same_fields fs fs) ((bytes_eq-Decides n n).1 refl) (joined (same d d) (same_fields fs fs) (same_self d) (fields_self fs))

mutual
  pub same_is : (d e : Datum) → same d e ≡ true → d ≡ e
  same_is Null Null h = refl
  same_is Null (Truth c) h = absurd (cc)
  same_is Null (Whole y) h = absurd (cc)
  same_is Null (Array es) h = absurd (cc)
  same_is Null (Record gs) h = absurd (cc)
  same_is (Truth b) Null h = absurd (cc)
  same_is (Truth b) (Truth c) h = ap (λ (x : Bool). Truth x) (agrees_is b c h)
  same_is (Truth b) (Whole y) h = absurd (cc)
  same_is (Truth b) (Array es) h = absurd (cc)
  same_is (Truth b) (Record gs) h = absurd (cc)
  same_is (Whole x) Null h = absurd (cc)
  same_is (Whole x) (Truth c) h = absurd (cc)
  same_is (Whole x) (Whole y) h = ap (λ (z : ℤ). Whole z) (number_is x y h)
  same_is (Whole x) (Array es) h = absurd (cc)
  same_is (Whole x) (Record gs) h = absurd (cc)
  same_is (Array ds) Null h = absurd (cc)
  same_is (Array ds) (Truth c) h = absurd (cc)
  same_is (Array ds) (Whole y) h = absurd (cc)
  same_is (Array ds) (Array es) h = ap (λ (x : Data). Array x) (items_is ds es h)
  same_is (Array ds) (Record gs) h = absurd (cc)
  same_is (Record fs) Null h = absurd (cc)
  same_is (Record fs) (Truth c) h = absurd (cc)
  same_is (Record fs) (Whole y) h = absurd (cc)
  same_is (Record fs) (Array es) h = absurd (cc)
  same_is (Record fs) (Record gs) h = ap (λ (x : Fields). Record x) (fields_is fs gs h)

  items_is : (ds es : Data) → same_items ds es ≡ true → ds ≡ es
  items_is no_items no_items h = refl
  items_is no_items (item e es) h = absurd (cc)
  items_is (item d ds) no_items h = absurd (cc)
  items_is (item d ds) (item e es) h =
      let two = both (same d e) (same_items ds es) h in
      let first : d ≡ e = same_is d e two.0 in
      let rest : ds ≡ es = items_is ds es two.1 in
      cc

  fields_is : (fs gs : Fields) → same_fields fs gs ≡ true → fs ≡ gs
  fields_is no_fields no_fields h = refl
  fields_is no_fields (field o e gs) h = absurd (cc)
  fields_is (field n d fs) no_fields h = absurd (cc)
  fields_is (field n d fs) (field o e gs) h =
      let two = both (bytes_eq n o) (same d e && same_fields fs gs) h in
      let more = both (same d e) (same_fields fs gs) two.1 in
      let name : n ≡ o = (bytes_eq-Decides n o).0 two.0 in
      let first : d ≡ e = same_is d e more.0 in
      let rest : fs ≡ gs = fields_is fs gs more.1 in
      cc

-- two data that differ are not the same
pub same_not : (d e : Datum) (b : Bool) → same d e ≡ b → (d ≡ e → ⊥) → b ≡ false
same_not d e true h differ = absurd (differ (same_is d e h))
same_not d e false h differ = refl
