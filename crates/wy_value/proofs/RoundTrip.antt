-- The text of a value spells the value.
use Rattle.std.proofs.Common.{◌≡◌, ℕ, zero, suc, ◌<◌, ◌≤◌, ◌^◌, ℤ, pos, negsuc, Bool, true, false, List, [], ◌∷◌, ◌++◌, codes, inl, inr, refl, sym, ap, ◌∙◌, subst, arith, rules, append_assoc, append-nil, ◌≤ℤ◌}
use Rattle.std.specs.Bool.{⊤}
use Rattle.std.proofs.lemmas.Int.{ints}
use Rattle.std.specs.Cmp.Lexicographic.{slice_cmp, nat_list_cmp_total}
use Rattle.std.specs.Fmt.{decimal, signed_decimal}
use Rattle.std.specs.List.{AllByRecursion}
use Rattle.std.specs.List.Sorted.{IsStrictlySortedBy}
use Rattle.std.specs.Ordering.{nat_cmp, ordering_reverse}
use Rattle.std.specs.declared.cmp.Ordering.TheVariants.{Less, Greater}
use Rattle.std.specs.Str.{chars}
use Rattle.std.proofs.lemmas.Map.Text.{is_eq-slice_cmp}
use Rattle.std.proofs.lemmas.Str.{encodes-chars}
use Rattle.wy_data.specs.Words.{IsName, is_word, all_parts}
use Rattle.wy_reading.specs.Rule.{lax, Turns, Spelled}
use Rattle.wy_reading.specs.Rule.Turns.{stop, more}
use Rattle.wy_reading.proofs.Words.{IsWordOf, AllPass, word-of}
use Rattle.wy_value.specs.declared.bounds.TheConstants.{INT_MIN, INT_MAX}
use Rattle.wy_value.specs.declared.character.Character.TheVariants as c
use Rattle.wy_value.specs.declared.fault.Kind.{Kind}
use Rattle.wy_value.specs.declared.value.Value.{Value}
use Rattle.wy_value.specs.declared.value.Value.TheVariants as value
use Rattle.wy_value.specs.Characters.{has}
use Rattle.wy_value.specs.Datum.{Datum, Null, Truth, Whole, Array, Record, Data, no_items, item, Fields, no_fields, field}
use Rattle.wy_value.specs.Values.{Rise, names_of, IsValue, AreValues, AreValueFields}
use Rattle.wy_value.specs.Numbers.{negated, is_int}
use Rattle.wy_value.specs.Shown.{nesting, nesting_items, nesting_fields}
use Rattle.wy_value.specs.Grammar.{R, eq, Mark, Digits, Number, Literal, Flat, Entry, given, placed, may_name, is_new, NewName, Elem, Next, Elems, Field, NextField, Fields as FieldsRule, ValueIn}
use Rattle.wy_value.proofs.CharacterLemmas.{start_letter, part_letter}
use Rattle.wy_value.proofs.Texts.{text, items_text, more_text, fields_text, more_fields_text, decimal_writes}
use Rattle.wy_value.proofs.TextBytes.{few_digits, few_digits_below}
use Rattle.wy_value.proofs.ValueOf.{value_of, values_of, entries_of}

-- ---- numbers

is_an_int : (z : ℤ) → INT_MIN ≤ℤ z → z ≤ℤ INT_MAX → is_int z ≡ true
is_an_int z low high = grind (arith, ints, low, high)

lax-passes : {A : Type 0} (s : Bool) (ok : A → Bool) (a : A) → ok a ≡ true → lax s ok a ≡ true
lax-passes true ok a h = h
lax-passes false ok a h = refl

digits-spell : (n : ℕ) (z : List ℕ) → n < 10 ^ 64 → Digits.reads (decimal n ++ z) (decimal n) z
digits-spell n z small = word-of Kind (has c.Digit) (has c.Digit) 48 refl 48 refl (decimal n) z (decimal_writes n small).word

number-spells : (n : ℤ) (z : List ℕ) → INT_MIN ≤ℤ n → n ≤ℤ INT_MAX → Number.reads (signed_decimal n ++ z) n z
number-spells (pos n) z low high =
    let small = few_digits n high in
    inl (decimal n, z, digits-spell n z small, (ap pos (sym (decimal_writes n small).value), refl))
number-spells (negsuc n) z low high =
    let small = few_digits_below n low in
    let value : negsuc n ≡ negated (decimal (suc n)) = rw ((decimal_writes (suc n) small).value) refl in
    inr (45, decimal (suc n) ++ z, (refl, refl), (decimal (suc n), z, digits-spell (suc n) z small, (value, refl)))

int-spells : (s : Bool) (n : ℤ) (z : List ℕ) → INT_MIN ≤ℤ n → n ≤ℤ INT_MAX → (Flat s).reads (signed_decimal n ++ z) (value.Int n) z
int-spells s n z low high = inl (n, z, (number-spells n z low high, lax-passes s is_int n (is_an_int n low high)), (refl, refl))

-- ---- names

parts-pass : (w : List ℕ) → all_parts w ≡ true → AllPass (has c.Part) w
parts-pass [] h = tt
parts-pass (d ∷ w) h = (grind (rules, h), parts-pass w (grind (rules, h)))

a_word : (w : List ℕ) → is_word w ≡ true → IsWordOf (has c.Start) (has c.Part) w
a_word [] h = absurd (cc)
a_word (d ∷ w) h = record { head = d; tail = w; shape = refl; starts = grind (rules, h); goes_on = parts-pass w (grind (rules, h)) }

-- the name stands behind those of the fields
abbrev Behind : List Entry → List ℕ → Type 0
Behind [] n = ⊤
Behind (f ∷ fs) n = (slice_cmp nat_cmp f.0 n ≡ Less) × Behind fs n

after : (f n : List ℕ) → slice_cmp nat_cmp f n ≡ Less → slice_cmp nat_cmp n f ≡ Greater
after f n h = nat_list_cmp_total.antisymm n f ∙ ap ordering_reverse h

placed-behind : (fs : List Entry) (n : List ℕ) (v : Value) → Behind fs n → placed fs n v ≡ fs ++ (n, v) ∷ []
placed-behind [] n v h = refl
placed-behind (f ∷ fs) n v h = rw (after f.0 n h.0, placed-behind fs n v h.1) refl

not-given : (fs : List Entry) (n : List ℕ) → Behind fs n → given fs n ≡ false
not-given [] n h = refl
not-given (f ∷ fs) n h = rw (sym (is_eq-slice_cmp n f.0), after f.0 n h.0, not-given fs n h.1) refl

name-spells : (s : Bool) (fs : List Entry) (n z : List ℕ) → IsName n → Behind fs n → (NewName s fs).reads (chars n ++ z) n z
name-spells s fs n z name behind =
    let same = encodes-chars n name.0 in
    let fine : may_name (chars n) ≡ true = rw (same, name.2) refl in
    let new : is_new fs (chars n) ≡ true = rw (same, not-given fs n behind) refl in
    (chars n, z, ((word-of Kind (has c.Start) (has c.Part) 97 start_letter 97 part_letter (chars n) z (a_word (chars n) name.1), fine), lax-passes s (is_new fs) (chars n) new), (sym same, refl))

-- ---- words and marks

spelled-spells : (word z : List ℕ) → (Spelled {X = Kind} eq word).reads (word ++ z) tt z
spelled-spells [] z = (refl, refl)
spelled-spells (d ∷ word) z = (d, word ++ z, (same d, refl), spelled-spells word z)
  where
    same : (d : ℕ) → eq d d ≡ true
    same d = search rules

literal-spells : (word : List ℕ) (v : Value) (z : List ℕ) → (Literal word v).reads (word ++ z) v z
literal-spells word v z = (tt, z, spelled-spells word z, (refl, refl))

-- the mark alone, and with a space behind it
pub mark-spells : (d : ℕ) (z : List ℕ) → has (c.Is d) d ≡ true → (Mark d).reads (d ∷ z) tt z
mark-spells d z h = (d, z, (h, refl), stop refl refl)

mark-spells-spaced : (d : ℕ) (z : List ℕ) → has (c.Is d) d ≡ true → (Mark d).reads (d ∷ 32 ∷ z) tt z
mark-spells-spaced d z h = (d, 32 ∷ z, (h, refl), more tt z (32, z, (refl, refl), (refl, refl)) (stop refl refl))

flat-spells : (D : ℕ) (s : Bool) (i : List ℕ) (v : Value) (z : List ℕ) → (Flat s).reads i v z → (ValueIn D s).reads i v z
flat-spells zero s i v z h = inr h
flat-spells (suc D) s i v z h = inr h

elem-spells : (s : Bool) (V : R Value) (i : List ℕ) (v : Value) (z : List ℕ) → V.reads i v z → (Elem s V).reads i v z
elem-spells s V i v z h = (v, z, h, (tt, z, stop refl refl, (refl, refl)))

-- ---- names that rise

abbrev AllBehind : List Entry → List (List ℕ) → Type 0
AllBehind fs [] = ⊤
AllBehind fs (n ∷ ns) = Behind fs n × AllBehind fs ns

behind-more : (fs : List Entry) (n : List ℕ) (v : Value) (m : List ℕ) → Behind fs m → slice_cmp nat_cmp n m ≡ Less → Behind (fs ++ (n, v) ∷ []) m
behind-more [] n v m h l = (l, tt)
behind-more (f ∷ fs) n v m h l = (h.0, behind-more fs n v m h.1 l)

all-behind-more : (fs : List Entry) (n : List ℕ) (v : Value) (ns : List (List ℕ)) → AllBehind fs ns → AllByRecursion (λ m. slice_cmp nat_cmp n m ≡ Less) ns → AllBehind (fs ++ (n, v) ∷ []) ns
all-behind-more fs n v [] h l = tt
all-behind-more fs n v (m ∷ ns) h l = (behind-more fs n v m h.0 l.0, all-behind-more fs n v ns h.1 l.1)

all-behind-none : (ns : List (List ℕ)) → AllBehind [] ns
all-behind-none [] = tt
all-behind-none (n ∷ ns) = (tt, all-behind-none ns)

first-rises : (n : List ℕ) (ns : List (List ℕ)) → Rise (n ∷ ns) → AllByRecursion (λ m. slice_cmp nat_cmp n m ≡ Less) ns
unfolding IsStrictlySortedBy
first-rises n ns h = h.0

pub rest-rises : (n : List ℕ) (ns : List (List ℕ)) → Rise (n ∷ ns) → Rise ns
unfolding IsStrictlySortedBy
rest-rises n ns h = h.1

field-spells : (s : Bool) (V : R Value) (fs : List Entry) (n : List ℕ) (v : Value) (i z : List ℕ) → IsName n → Behind fs n → V.reads i v z
    → (Field s V fs).reads (chars n ++ (58 ∷ 32 ∷ i)) (fs ++ (n, v) ∷ []) z
field-spells s V fs n v i z name behind h = (
  n,
  58 ∷ 32 ∷ i,
  name-spells s fs n (58 ∷ 32 ∷ i) name behind,
  (tt, 58 ∷ 32 ∷ i, stop refl refl, (tt, i, mark-spells-spaced 58 i refl, (v, z, elem-spells s V i v z h, (sym (placed-behind fs n v behind), refl)))),
)

-- ---- values

mutual
  pub value-spells : (d : Datum) (D : ℕ) (s : Bool) → nesting d ≤ D → IsValue d → (z : List ℕ) → (ValueIn D s).reads (text d z) (value_of d) z
  value-spells Null D s deep v z = flat-spells D s _ value.Null z (inr (inl (literal-spells (codes "null") value.Null z)))
  value-spells (Truth true) D s deep v z = flat-spells D s _ (value.Bool true) z (inr (inr (inl (literal-spells (codes "true") (value.Bool true) z))))
  value-spells (Truth false) D s deep v z = flat-spells D s _ (value.Bool false) z (inr (inr (inr (literal-spells (codes "false") (value.Bool false) z))))
  value-spells (Whole n) D s deep v z = flat-spells D s _ (value.Int n) z (int-spells s n z v.0 v.1)
  value-spells (Array items) zero s deep v z = absurd (omega (arith, deep))
  value-spells (Array items) (suc D) s deep v z =
      inl (inl (
        tt,
        items_text items (93 ∷ z),
        mark-spells 91 (items_text items (93 ∷ z)) refl,
        (values_of items, 93 ∷ z, items-spell items D s (omega (arith, deep)) v.1 (93 ∷ z), (93, z, (refl, refl), (refl, refl))),
      ))
  value-spells (Record fs) zero s deep v z = absurd (omega (arith, deep))
  value-spells (Record fs) (suc D) s deep v z =
      inl (inr (
        tt,
        fields_text fs (125 ∷ z),
        mark-spells 123 (fields_text fs (125 ∷ z)) refl,
        (entries_of fs, 125 ∷ z, fields-spell fs D s (omega (arith, deep)) v.0 v.1 (125 ∷ z), (125, z, (refl, refl), (refl, refl))),
      ))

  pub items-spell : (items : Data) (D : ℕ) (s : Bool) → nesting_items items ≤ D → AreValues items → (z : List ℕ) → (Elems s (ValueIn D s)).reads (items_text items z) (values_of items) z
  items-spell no_items D s deep v z = inr (refl, refl)
  items-spell (item d rest) D s deep v z =
      inl (
        value_of d,
        more_text rest z,
        elem-spells s (ValueIn D s) _ (value_of d) _ (value-spells d D s (omega (arith, deep)) v.0 (more_text rest z)),
        more-spell rest D s (omega (arith, deep)) v.1 (value_of d ∷ []) z,
      )

  more-spell : (items : Data) (D : ℕ) (s : Bool) → nesting_items items ≤ D → AreValues items → (vs : List Value) (z : List ℕ) → Turns (Next s (ValueIn D s)) vs (more_text items z) (vs ++ values_of items) z
  more-spell no_items D s deep v vs z = stop (append-nil vs) refl
  more-spell (item d rest) D s deep v vs z =
      more (vs ++ value_of d ∷ []) (more_text rest z) (
        tt,
        text d (more_text rest z),
        mark-spells-spaced 44 (text d (more_text rest z)) refl,
        (value_of d, more_text rest z, elem-spells s (ValueIn D s) _ (value_of d) _ (value-spells d D s (omega (arith, deep)) v.0 (more_text rest z)), (refl, refl)),
      )
      (subst (λ l. Turns (Next s (ValueIn D s)) (vs ++ value_of d ∷ []) (more_text rest z) l z) (append_assoc vs (value_of d ∷ []) (values_of rest)) (more-spell rest D s (omega (arith, deep)) v.1 (vs ++ value_of d ∷ []) z))

  fields-spell : (fs : Fields) (D : ℕ) (s : Bool) → nesting_fields fs ≤ D → Rise (names_of fs) → AreValueFields fs → (z : List ℕ) → (FieldsRule s (ValueIn D s)).reads (fields_text fs z) (entries_of fs) z
  fields-spell no_fields D s deep rise v z = inr (refl, refl)
  fields-spell (field n d rest) D s deep rise v z =
      inl (
        (n, value_of d) ∷ [],
        more_fields_text rest z,
        field-spells s (ValueIn D s) [] n (value_of d) (text d (more_fields_text rest z)) (more_fields_text rest z) v.0 tt (value-spells d D s (omega (arith, deep)) v.1 (more_fields_text rest z)),
        more-fields-spell rest D s ((n, value_of d) ∷ []) (omega (arith, deep)) (rest-rises n (names_of rest) rise)
            (all-behind-more [] n (value_of d) (names_of rest) (all-behind-none (names_of rest)) (first-rises n (names_of rest) rise)) v.2 z,
      )

  more-fields-spell : (fs : Fields) (D : ℕ) (s : Bool) (es : List Entry) → nesting_fields fs ≤ D → Rise (names_of fs) → AllBehind es (names_of fs) → AreValueFields fs → (z : List ℕ)
      → Turns (NextField s (ValueIn D s)) es (more_fields_text fs z) (es ++ entries_of fs) z
  more-fields-spell no_fields D s es deep rise behind v z = stop (append-nil es) refl
  more-fields-spell (field n d rest) D s es deep rise behind v z =
      more (es ++ (n, value_of d) ∷ []) (more_fields_text rest z) (
        tt,
        chars n ++ (58 ∷ 32 ∷ text d (more_fields_text rest z)),
        mark-spells-spaced 44 (chars n ++ (58 ∷ 32 ∷ text d (more_fields_text rest z))) refl,
        field-spells s (ValueIn D s) es n (value_of d) (text d (more_fields_text rest z)) (more_fields_text rest z) v.0 behind.0 (value-spells d D s (omega (arith, deep)) v.1 (more_fields_text rest z)),
      )
      (subst (λ l. Turns (NextField s (ValueIn D s)) (es ++ (n, value_of d) ∷ []) (more_fields_text rest z) l z) (append_assoc es ((n, value_of d) ∷ []) (entries_of rest))
      (more-fields-spell rest D s (es ++ (n, value_of d) ∷ []) (omega (arith, deep)) (rest-rises n (names_of rest) rise)
      (all-behind-more es n (value_of d) (names_of rest) behind.1 (first-rises n (names_of rest) rise)) v.2 z))
