-- The text of a value as characters has the bytes of its text.
use Rattle.std.proofs.Common.{◌≡◌, ℕ, suc, ◌<◌, ◌^◌, ℤ, pos, negsuc, true, false, List, [], ◌∷◌, ◌++◌, refl, sym, ap, ◌∙◌, arith, rules, append_assoc, subst, ◌≤ℤ◌}
use Rattle.std.proofs.lemmas.Int.{ints}
use Rattle.std.specs.Fmt.{decimal, signed_decimal}
use Rattle.std.specs.Str.{chars, encode_utf8_all, all_scalars, IsUtf8}
use Rattle.std.proofs.lemmas.Str.{encode_ascii, encodes-append, encodes-chars, scalars-chars}
use Rattle.wy_data.specs.Words.{IsName}
use Rattle.wy_reading.proofs.Words.{AllPass}
use Rattle.wy_value.specs.declared.bounds.TheConstants.{INT_MIN, INT_MAX}
use Rattle.wy_value.specs.declared.character.Character.TheVariants.{Digit}
use Rattle.wy_value.specs.Characters.{has}
use Rattle.wy_value.specs.Datum.{Datum, Null, Truth, Whole, Array, Record, Data, no_items, item, Fields, no_fields, field}
use Rattle.wy_value.specs.Values.{IsValue, AreValues, AreValueFields}
use Rattle.wy_value.specs.Shown.{shown, shown_items, more_items, shown_fields, more_fields}
use Rattle.wy_value.proofs.Texts.{text, items_text, more_text, fields_text, more_fields_text, decimal_writes}

-- the characters have these bytes
pub record Codes (cs bytes : List ℕ) : Type 0 where
  pub scalars : all_scalars cs ≡ true
  pub encoded : encode_utf8_all cs ≡ bytes

pub codes-one : (c : ℕ) (cs bytes : List ℕ) → c < 128 → Codes cs bytes → Codes (c ∷ cs) (c ∷ bytes)
codes-one c cs bytes low h = record { scalars = grind (arith, h.scalars); encoded = rw (encode_ascii c low, h.encoded) refl }

-- digits are ASCII
codes-digits : (ds cs bytes : List ℕ) → AllPass (has Digit) ds → Codes cs bytes → Codes (ds ++ cs) (ds ++ bytes)
codes-digits [] cs bytes all h = h
codes-digits (d ∷ ds) cs bytes all h = let low : d < 128 = grind (arith, all.0) in codes-one d (ds ++ cs) (ds ++ bytes) low (codes-digits ds cs bytes all.1 h)

codes-decimal : (n : ℕ) (cs bytes : List ℕ) → n < 10 ^ 64 → Codes cs bytes → Codes (decimal n ++ cs) (decimal n ++ bytes)
codes-decimal n cs bytes small h =
    let w = (decimal_writes n small).word in
    rw w.shape (codes-digits (w.head ∷ w.tail) cs bytes (w.starts, w.goes_on) h)

scalars-append : (a b : List ℕ) → all_scalars a ≡ true → all_scalars b ≡ true → all_scalars (a ++ b) ≡ true
scalars-append [] b h g = g
scalars-append (c ∷ a) b h g = let e = scalars-append a b in grind (rules, h, g, e)

-- a text of UTF-8, decoded
codes-chars : (name cs bytes : List ℕ) → IsUtf8 name → Codes cs bytes → Codes (chars name ++ cs) (name ++ bytes)
codes-chars name cs bytes u h =
    record {
      scalars = scalars-append (chars name) cs (scalars-chars name u) h.scalars;
      encoded = encodes-append (chars name) cs ∙ (ap (λ l. l ++ encode_utf8_all cs) (encodes-chars name u) ∙ ap (λ l. name ++ l) h.encoded);
    }

-- a number of the language has few digits
pub few_digits : (n : ℕ) → pos n ≤ℤ INT_MAX → n < 10 ^ 64
few_digits n h = grind (arith, ints, h)

pub few_digits_below : (n : ℕ) → INT_MIN ≤ℤ negsuc n → suc n < 10 ^ 64
few_digits_below n h = grind (arith, ints, h)

codes-number : (z : ℤ) (cs bytes : List ℕ) → INT_MIN ≤ℤ z → z ≤ℤ INT_MAX → Codes cs bytes → Codes (signed_decimal z ++ cs) (signed_decimal z ++ bytes)
codes-number (pos n) cs bytes low high h = codes-decimal n cs bytes (few_digits n high) h
codes-number (negsuc n) cs bytes low high h = codes-one 45 (decimal (suc n) ++ cs) (decimal (suc n) ++ bytes) (omega arith) (codes-decimal (suc n) cs bytes (few_digits_below n low) h)

-- a name, a colon, a space, and what follows
codes-name : (n inner more bytes cs : List ℕ) → IsName n → Codes cs (inner ++ (more ++ bytes)) → Codes (chars n ++ (58 ∷ 32 ∷ cs)) (((n ++ (58 ∷ 32 ∷ inner)) ++ more) ++ bytes)
codes-name n inner more bytes cs name h =
    let flat : ((n ++ (58 ∷ 32 ∷ inner)) ++ more) ++ bytes ≡ n ++ (58 ∷ 32 ∷ (inner ++ (more ++ bytes))) =
    append_assoc (n ++ (58 ∷ 32 ∷ inner)) more bytes ∙ append_assoc n (58 ∷ 32 ∷ inner) (more ++ bytes) in
    subst (λ l. Codes (chars n ++ (58 ∷ 32 ∷ cs)) l) (sym flat)
    (codes-chars n (58 ∷ 32 ∷ cs) (58 ∷ 32 ∷ (inner ++ (more ++ bytes))) name.0
    (codes-one 58 (32 ∷ cs) (32 ∷ (inner ++ (more ++ bytes))) (omega arith) (codes-one 32 cs (inner ++ (more ++ bytes)) (omega arith) h)))

-- a bracket, what stands inside, and a bracket
codes-bracket : (left right : ℕ) (inner bytes cs : List ℕ) → left < 128 → Codes cs (inner ++ (right ∷ bytes)) → Codes (left ∷ cs) ((left ∷ (inner ++ right ∷ [])) ++ bytes)
codes-bracket left right inner bytes cs low h =
    codes-one left cs ((inner ++ right ∷ []) ++ bytes) low (subst (λ l. Codes cs l) (sym (append_assoc inner (right ∷ []) bytes)) h)

mutual
  pub text-codes : (d : Datum) → IsValue d → (cs bytes : List ℕ) → Codes cs bytes → Codes (text d cs) (shown d ++ bytes)
  text-codes Null v cs bytes h = codes-one 110 _ _ (omega arith) (codes-one 117 _ _ (omega arith) (codes-one 108 _ _ (omega arith) (codes-one 108 cs bytes (omega arith) h)))
  text-codes (Truth true) v cs bytes h = codes-one 116 _ _ (omega arith) (codes-one 114 _ _ (omega arith) (codes-one 117 _ _ (omega arith) (codes-one 101 cs bytes (omega arith) h)))
  text-codes (Truth false) v cs bytes h = codes-one 102 _ _ (omega arith) (codes-one 97 _ _ (omega arith) (codes-one 108 _ _ (omega arith) (codes-one 115 _ _ (omega arith) (codes-one 101 cs bytes (omega arith) h))))
  text-codes (Whole z) v cs bytes h = codes-number z cs bytes v.0 v.1 h
  text-codes (Array items) v cs bytes h =
      codes-bracket 91 93 (shown_items items) bytes (items_text items (93 ∷ cs)) (omega arith) (items-codes items v.1 (93 ∷ cs) (93 ∷ bytes) (codes-one 93 cs bytes (omega arith) h))
  text-codes (Record fs) v cs bytes h =
      codes-bracket 123 125 (shown_fields fs) bytes (fields_text fs (125 ∷ cs)) (omega arith) (fields-codes fs v.1 (125 ∷ cs) (125 ∷ bytes) (codes-one 125 cs bytes (omega arith) h))

  items-codes : (items : Data) → AreValues items → (cs bytes : List ℕ) → Codes cs bytes → Codes (items_text items cs) (shown_items items ++ bytes)
  items-codes no_items v cs bytes h = h
  items-codes (item d rest) v cs bytes h =
      subst (λ l. Codes (text d (more_text rest cs)) l) (sym (append_assoc (shown d) (more_items rest) bytes)) (text-codes d v.0 (more_text rest cs) (more_items rest ++ bytes) (more-codes rest v.1 cs bytes h))

  more-codes : (items : Data) → AreValues items → (cs bytes : List ℕ) → Codes cs bytes → Codes (more_text items cs) (more_items items ++ bytes)
  more-codes no_items v cs bytes h = h
  more-codes (item d rest) v cs bytes h =
      codes-one 44 _ _ (omega arith) (codes-one 32 _ _ (omega arith)
      (subst (λ l. Codes (text d (more_text rest cs)) l) (sym (append_assoc (shown d) (more_items rest) bytes)) (text-codes d v.0 (more_text rest cs) (more_items rest ++ bytes) (more-codes rest v.1 cs bytes h))))

  fields-codes : (fs : Fields) → AreValueFields fs → (cs bytes : List ℕ) → Codes cs bytes → Codes (fields_text fs cs) (shown_fields fs ++ bytes)
  fields-codes no_fields v cs bytes h = h
  fields-codes (field n d rest) v cs bytes h =
      codes-name n (shown d) (more_fields rest) bytes (text d (more_fields_text rest cs)) v.0
      (text-codes d v.1 (more_fields_text rest cs) (more_fields rest ++ bytes) (more-fields-codes rest v.2 cs bytes h))

  more-fields-codes : (fs : Fields) → AreValueFields fs → (cs bytes : List ℕ) → Codes cs bytes → Codes (more_fields_text fs cs) (more_fields fs ++ bytes)
  more-fields-codes no_fields v cs bytes h = h
  more-fields-codes (field n d rest) v cs bytes h =
      codes-one 44 _ _ (omega arith) (codes-one 32 _ _ (omega arith)
      (codes-name n (shown d) (more_fields rest) bytes (text d (more_fields_text rest cs)) v.0
      (text-codes d v.1 (more_fields_text rest cs) (more_fields rest ++ bytes) (more-fields-codes rest v.2 cs bytes h))))
