-- A text begins with one number, one word, and one word with a number.
use Rattle.std.proofs.Common.{◌≡◌, ℕ, suc, ◌<◌, ◌≤◌, ◌^◌, true, false, List, [], ◌∷◌, ◌++◌, length, ℤ, pos, negsuc, refl, sym, ap, ◌∙◌, subst, arith}
use Rattle.std.specs.Fmt.{decimal, signed_decimal}
use Rattle.std.specs.Str.Parse.{digits_value}
use Rattle.std.proofs.lemmas.Fmt.{decimal_is_IsNumeral_wide}
use Rattle.wy_lemmas.proofs.Lists.{append_cancel}
use Rattle.wy_data.specs.scan.Front.{is_digit, is_word_byte, AllPass}
use Rattle.wy_data.specs.scan.Numbers.{IsNaturalAt, IsWholeAt, is_wide}
use Rattle.wy_data.specs.scan.Words.{IsWordAt, IsNumberedAt}
use Rattle.wy_data.proofs.scan_lemmas.RunLemmas.{run_same, RunsSame}
use Rattle.wy_data.proofs.scan_lemmas.NumberLemmas.{decimal_passes, wide_pos, wide_neg, written_so, written_some, signed_same}

decimal_one : (m n : ℕ) → m < 2 ^ 127 → n < 2 ^ 127 → decimal m ≡ decimal n → m ≡ n
decimal_one m n lm ln e = sym (decimal_is_IsNumeral_wide m (omega arith)).1 ∙ ap (digits_value 10) e ∙ (decimal_is_IsNumeral_wide n (omega arith)).1

decimal_one_more : (m n : ℕ) → m ≤ 2 ^ 127 → n ≤ 2 ^ 127 → decimal m ≡ decimal n → m ≡ n
decimal_one_more m n lm ln e = sym (decimal_is_IsNumeral_wide m (omega arith)).1 ∙ ap (digits_value 10) e ∙ (decimal_is_IsNumeral_wide n (omega arith)).1

no_minus : (n : ℕ) (ds : List ℕ) {A : Type 0} → n < 2 ^ 127 → decimal n ≡ 45 ∷ ds → A
no_minus n ds small e = absurd (let h = (subst (AllPass is_digit) e (decimal_passes n (omega arith))).0 in cc)

signed_one : (y z : ℤ) → is_wide y ≡ true → is_wide z ≡ true → signed_decimal y ≡ signed_decimal z → y ≡ z
signed_one (pos m) (pos n) wy wz e = ap pos (decimal_one m n (wide_pos m wy) (wide_pos n wz) e)
signed_one (pos m) (negsuc n) wy wz e = no_minus m (decimal (suc n)) (wide_pos m wy) e
signed_one (negsuc m) (pos n) wy wz e = no_minus n (decimal (suc m)) (wide_pos n wz) (sym e)
signed_one (negsuc m) (negsuc n) wy wz e =
    let digits : decimal (suc m) ≡ decimal (suc n) = cc in
    let same : suc m ≡ suc n = decimal_one_more (suc m) (suc n) (omega (arith, wide_neg m wy)) (omega (arith, wide_neg n wz)) digits in
    let k : m ≡ n = cc in
    ap negsuc k

pub record OneNatural (m n : ℕ) (r s : List ℕ) : Type 0 where
  pub number : m ≡ n
  pub rest : r ≡ s

pub one_natural : (text : List ℕ) (m n : ℕ) (r s : List ℕ) → IsNaturalAt text m r → IsNaturalAt text n s → OneNatural m n r s
one_natural text m n r s a b =
    let k = run_same is_digit (decimal m) (decimal n) r s (decimal_passes m (omega (arith, a.small))) (decimal_passes n (omega (arith, b.small))) a.ends b.ends (sym a.is ∙ b.is) in
    record { number = decimal_one m n a.small b.small k.front; rest = k.rest }

pub record OneWhole (y z : ℤ) (r s : List ℕ) : Type 0 where
  pub number : y ≡ z
  pub rest : r ≡ s

some_not_none : (f : List ℕ) {A : Type 0} → 0 < length f → f ≡ [] → A
some_not_none [] some e = absurd (omega arith)
some_not_none (b ∷ f) some e = absurd (cc)

pub one_whole : (text : List ℕ) (y z : ℤ) (r s : List ℕ) → IsWholeAt text y r → IsWholeAt text z s → OneWhole y z r s
one_whole text y z r s a b =
    let e : signed_decimal y ++ r ≡ signed_decimal z ++ s = sym a.is ∙ b.is in
    let front : signed_decimal y ≡ signed_decimal z = signed_same (signed_decimal y) (signed_decimal z) r s (written_so y a.small) (written_so z b.small) (written_some z b.small) (λ none. some_not_none (signed_decimal y) (written_some y a.small) none) a.ends b.ends e in
    record { number = signed_one y z a.small b.small front; rest = append_cancel (signed_decimal z) r s (subst (λ f. f ++ r ≡ signed_decimal z ++ s) front e) }

pub one_word : (text v w r s : List ℕ) → IsWordAt text v r → IsWordAt text w s → RunsSame v w r s
one_word text v w r s a b = run_same is_word_byte v w r s a.word.bytes b.word.bytes a.ends b.ends (sym a.is ∙ b.is)

pub record OneNumbered (v w : List ℕ) (m n : ℕ) (r s : List ℕ) : Type 0 where
  pub word : v ≡ w
  pub number : m ≡ n
  pub rest : r ≡ s

pub one_numbered : (sign : ℕ) (text v w : List ℕ) (m n : ℕ) (r s : List ℕ) → is_word_byte sign ≡ false → IsNumberedAt sign text v m r → IsNumberedAt sign text w n s → OneNumbered v w m n r s
one_numbered sign text v w m n r s apart a b =
    let k = run_same is_word_byte v w (sign ∷ (decimal m ++ r)) (sign ∷ (decimal n ++ s)) a.word.bytes b.word.bytes apart apart (sym a.is ∙ b.is) in
    let e : sign ∷ (decimal m ++ r) ≡ sign ∷ (decimal n ++ s) = k.rest in
    let o = one_natural (decimal m ++ r) m n r s (record { is = refl; small = a.small; ends = a.ends }) (record { is = cc; small = b.small; ends = b.ends }) in
    record { word = k.front; number = o.number; rest = o.rest }
