-- The text of a datum as characters, with more characters behind it.
use Rattle.std.proofs.Common.{◌≡◌, ℕ, ◌+◌, ◌/◌, ◌%◌, ◌<◌, ◌≤◌, ◌^◌, true, false, List, [], ◌∷◌, ◌++◌, codes, refl, ap, arith}
use Rattle.std.specs.Fmt.{decimal, signed_decimal}
use Rattle.std.specs.Str.{chars}
use Rattle.std.proofs.lemmas.Fmt.{decimal_by_steps_wide}
use Rattle.wy_reading.proofs.SharedLemmas.{number_from-append}
use Rattle.wy_reading.proofs.Words.{IsWordOf, all-append}
use Rattle.wy_reading.specs.ListGrammar.{number_from}
use Rattle.wy_value.specs.declared.character.Character.TheVariants.{Digit}
use Rattle.wy_value.specs.Characters.{has}
use Rattle.wy_value.specs.Datum.{Datum, Null, Truth, Whole, Array, Record, Data, no_items, item, Fields, no_fields, field}

abbrev mutual
  pub text : Datum → List ℕ → List ℕ
  text Null z = codes "null" ++ z
  text (Truth true) z = codes "true" ++ z
  text (Truth false) z = codes "false" ++ z
  text (Whole n) z = signed_decimal n ++ z
  text (Array items) z = 91 ∷ items_text items (93 ∷ z)
  text (Record fs) z = 123 ∷ fields_text fs (125 ∷ z)

  pub items_text : Data → List ℕ → List ℕ
  items_text no_items z = z
  items_text (item d rest) z = text d (more_text rest z)

  pub more_text : Data → List ℕ → List ℕ
  more_text no_items z = z
  more_text (item d rest) z = 44 ∷ 32 ∷ text d (more_text rest z)

  pub fields_text : Fields → List ℕ → List ℕ
  fields_text no_fields z = z
  fields_text (field n d rest) z = chars n ++ (58 ∷ 32 ∷ text d (more_fields_text rest z))

  pub more_fields_text : Fields → List ℕ → List ℕ
  more_fields_text no_fields z = z
  more_fields_text (field n d rest) z = 44 ∷ 32 ∷ (chars n ++ (58 ∷ 32 ∷ text d (more_fields_text rest z)))

-- ---- numbers

-- digits, which write the number
pub record Writes (n : ℕ) (ds : List ℕ) : Type 0 where
  pub word : IsWordOf (has Digit) (has Digit) ds
  pub value : number_from 0 ds ≡ n

a_digit : (d : ℕ) → d < 10 → has Digit (48 + d) ≡ true
a_digit d h = grind arith

pub decimal_writes : (n : ℕ) → n < 10 ^ 64 → Writes n (decimal n)
decimal_writes n small = decimal_by_steps_wide Writes one more n small
  where
    one : (n : ℕ) → n < 10 → Writes n ((48 + n) ∷ [])
    one n h = record {
      word = record { head = 48 + n; tail = []; shape = refl; starts = a_digit n h; goes_on = tt };
      value = omega arith;
    }

    more : (n : ℕ) (ds : List ℕ) → 10 ≤ n → Writes (n / 10) ds → Writes n (ds ++ ((48 + n % 10) ∷ []))
    more n ds h w =
        let d = a_digit (n % 10) (omega arith) in
        record {
          word = record {
            head = w.word.head;
            tail = w.word.tail ++ ((48 + n % 10) ∷ []);
            shape = ap (λ l. l ++ ((48 + n % 10) ∷ [])) w.word.shape;
            starts = w.word.starts;
            goes_on = all-append (has Digit) w.word.tail ((48 + n % 10) ∷ []) w.word.goes_on (d, tt);
          };
          value = omega (arith, number_from-append 0 ds (48 + n % 10), w.value);
        }
