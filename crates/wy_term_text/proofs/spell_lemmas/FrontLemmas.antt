-- What the front of a text says of names and leads.
use Rattle.std.proofs.Common.{◌≡◌, ℕ, Bool, true, false, List, [], ◌∷◌, ◌++◌, Option, Some, None, codes, refl, ap, ◌∙◌, arith, ℤ, pos, negsuc, ◌<◌, length, ◌==◌, if◌then◌else◌, eqb-true}
use Rattle.std.specs.Fmt.{decimal, signed_decimal}
use Rattle.wy_term.specs.wy_data.scan.Front.{is_digit, is_word_byte, heads, AllPass}
use Rattle.wy_term.specs.wy_data.scan.Numbers.{is_wide}
use Rattle.wy_term.specs.wy_data.scan.Words.{IsWord}
use Rattle.wy_term.proofs.wy_data_proofs.scan_lemmas.NumberLemmas.{decimal_passes, wide_pos, numeral}
use Rattle.wy_term_text.specs.declared.spell.lead.Class.TheVariants as class
use Rattle.wy_term_text.specs.declared.spell.lead.Lead.{Lead}
use Rattle.wy_term_text.specs.declared.spell.lead.Lead.TheVariants as lead
use Rattle.wy_term_text.specs.spell.Heads.{class_at, lead_at, leads, lead_in, row_or, behind_word, by_sign, behind_run, is_number_byte}

-- what follows a run of a word's bytes
pub behind_run_of : (w k : List ℕ) → AllPass is_word_byte w → heads is_word_byte k ≡ false → behind_run (w ++ k) ≡ k
behind_run_of [] [] p h = refl
behind_run_of [] (b ∷ k) p h = rw h refl
behind_run_of (b ∷ w) k p h = rw p.0 (behind_run_of w k p.1 h)

word_byte_number : (b : ℕ) → is_word_byte b ≡ true → is_digit b ≡ false → is_number_byte b ≡ false
word_byte_number b word no_digit = grind (arith, word, no_digit)

-- a word begins no number
word_no_number : (w k : List ℕ) → IsWord w → heads is_word_byte k ≡ false → heads is_number_byte k ≡ false → heads is_number_byte (w ++ k) ≡ false
word_no_number [] k word h n = n
word_no_number (b ∷ w) k word h n = word_byte_number b word.bytes.0 word.start

-- a word and a sign that is no word's byte
pub class_of_name : (w k : List ℕ) (b : ℕ) → IsWord w → is_word_byte b ≡ false → is_number_byte b ≡ false → class_at (w ++ (b ∷ k)) ≡ by_sign (b ∷ k)
unfolding class_at
class_of_name w k b word apart n = rw (word_no_number w (b ∷ k) word apart n, behind_run_of w (b ∷ k) word.bytes apart) refl

-- digits begin a number
digits_number : (ds k : List ℕ) → AllPass is_digit ds → 0 < length ds → heads is_number_byte (ds ++ k) ≡ true
digits_number [] k p some = absurd (omega arith)
digits_number (d ∷ ds) k p some = rw p.0 refl

number_begins : (z : ℤ) (k : List ℕ) → is_wide z ≡ true → heads is_number_byte (signed_decimal z ++ k) ≡ true
number_begins (pos n) k wide = let small = wide_pos n wide in digits_number (decimal n) k (decimal_passes n (omega (arith, small))) (numeral n (omega (arith, small))).0
number_begins (negsuc n) k wide = refl

pub class_of_number : (z : ℤ) (k : List ℕ) → is_wide z ≡ true → class_at (signed_decimal z ++ k) ≡ class.Number
unfolding class_at
class_of_number z k wide = rw (number_begins z k wide) refl

-- ---- leads

-- the word of a lead
abbrev pub lead_word : Lead → List ℕ
lead_word lead.Add = codes "add("
lead_word lead.Sub = codes "sub("
lead_word lead.Neg = codes "neg("
lead_word lead.Mul = codes "mul("
lead_word lead.Div = codes "div("
lead_word lead.Mod = codes "mod("
lead_word lead.Num = codes "num("
lead_word lead.Len = codes "len("
lead_word lead.Null = codes "null"
lead_word lead.True = codes "true"
lead_word lead.False = codes "false"
lead_word lead.Int = codes "int("
lead_word lead.Truth = codes "bool("
lead_word lead.Array = codes "arr["
lead_word lead.Repeat = codes "rep("
lead_word lead.Update = codes "upd("
lead_word lead.Get = codes "get("
lead_word lead.Record = codes "rec{"
lead_word lead.Field = codes "fld("
lead_word lead.SetField = codes "setf("
lead_word lead.Kind = codes "kind("
lead_word lead.In = codes "in("
lead_word lead.All = codes "all "
lead_word lead.Some = codes "some "
lead_word lead.Not = codes "not "
lead_word lead.And = codes "and("
lead_word lead.Or = codes "or("

behind_word_is : (w i k : List ℕ) → behind_word w i ≡ Some k → i ≡ w ++ k
behind_word_is [] i k e = cc
behind_word_is (c ∷ w) [] k e = absurd (cc)
behind_word_is (c ∷ w) (b ∷ i) k e = by (b == c) refl e (λ h. behind_word_is w i k h)
  where
    by : (t : Bool) → (b == c) ≡ t → (if t then behind_word w i else None) ≡ Some k → (behind_word w i ≡ Some k → i ≡ w ++ k) → b ∷ i ≡ c ∷ (w ++ k)
    by true t e others = let same = eqb-true b c t in let rest = others e in cc
    by false t e others = absurd (cc)

-- each row has the word of its lead
abbrev AreRows : List (List ℕ × Lead) → Type 0
AreRows [] = Unit {0}
AreRows (row ∷ rows) = (row.0 ≡ lead_word row.1) × AreRows rows

rows_is : (rows : List (List ℕ × Lead)) → AreRows rows → (i : List ℕ) (l : Lead) (k : List ℕ) → lead_in rows i ≡ Some (l, k) → i ≡ lead_word l ++ k
rows_is [] right i l k e = absurd (cc)
rows_is (row ∷ rows) right i l k e = by (behind_word row.0 i) refl e (λ h. rows_is rows right.1 i l k h)
  where
    by : (o : Option (List ℕ)) → behind_word row.0 i ≡ o → row_or row.1 o (lead_in rows i) ≡ Some (l, k) → (lead_in rows i ≡ Some (l, k) → i ≡ lead_word l ++ k) → i ≡ lead_word l ++ k
    by None h e others = others e
    by (Some j) h e others =
        let both : (row.1, j) ≡ (l, k) = cc in
        let first : row.1 ≡ l = ap (λ (p : Lead × List ℕ). p.0) both in
        let rest : j ≡ k = ap (λ (p : Lead × List ℕ). p.1) both in
        behind_word_is row.0 i j h ∙ ap (λ w. w ++ j) (right.0 ∙ ap lead_word first) ∙ ap (λ x. lead_word l ++ x) rest

pub lead_is : (i : List ℕ) (l : Lead) (k : List ℕ) → lead_at i ≡ Some (l, k) → i ≡ lead_word l ++ k
unfolding lead_at
lead_is i l k e = rows_is leads (refl, (refl, (refl, (refl, (refl, (refl, (refl, (refl, (refl, (refl, (refl, (refl, (refl, (refl, (refl, (refl, (refl, (refl, (refl, (refl, (refl, (refl, (refl, (refl, (refl, (refl, (refl, tt))))))))))))))))))))))))))) i l k e
