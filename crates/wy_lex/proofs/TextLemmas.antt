-- The bytes and the numbers that characters spell, one character after another.
use Rattle.std.proofs.Common.{◌≡◌, ℕ, zero, suc, ◌+◌, ◌-◌, ◌*◌, ◌<◌, ◌≤◌, nat_le, Bool, true, false, true≢false, List, [], ◌∷◌, ◌++◌, length, take, drop, slice_index_or, Some, refl, sym, ap, ◌∙◌, arith, length-drop, append-nil, append_assoc}
use Rattle.std.specs.Char.{encode_utf8}
use Rattle.std.proofs.lemmas.Bool.{leb-true}
use Rattle.wy_reading.specs.ListGrammar.{number_from}
use Rattle.wy_reading.specs.Rule.{heads}
use Rattle.wy_lex.specs.declared.symbol.Symbol.{Symbol}
use Rattle.wy_lex.specs.Symbols.{bytes_of}
use Rattle.wy_lex.specs.Kinds.{greatest}
use Rattle.wy_lex.specs.Grammar.{is}
use Rattle.wy_lex.specs.Reading.{behind_close}

-- ---- bytes

-- one more character
pub spelled_next : (w : List Symbol) (n : ℕ) (d : Symbol) → n < length w → bytes_of (take (suc n) w) ≡ bytes_of (take n w) ++ encode_utf8 (slice_index_or w n d).character
spelled_next [] n d le = absurd (omega arith)
spelled_next (s ∷ w) zero d le = append-nil (encode_utf8 s.character)
spelled_next (s ∷ w) (suc n) d le =
    rw (spelled_next w n d (omega (arith, le))) (sym (append_assoc (encode_utf8 s.character) (bytes_of (take n w)) (encode_utf8 (slice_index_or w n d).character)))

-- ---- numbers

pub number_grows : (n : ℕ) (ds : List ℕ) → n ≤ number_from n ds
number_grows n [] = omega arith
number_grows n (d ∷ ds) = let h = number_grows (n * 10 + (d - 48)) ds in omega (arith, h)

-- ---- the end of a comment

pub closes_here : (i : List Symbol) (n : ℕ) (d : Symbol) → n < length i → is 42 (slice_index_or i n d) ≡ true → heads (is 47) (drop (suc n) i) ≡ true
    → behind_close (drop n i) ≡ Some (drop (suc (suc n)) i)
closes_here [] n d le star slash = absurd (omega arith)
closes_here (s ∷ []) zero d le star slash = absurd (true≢false (sym slash))
closes_here (s ∷ t ∷ i) zero d le star slash = rw (star, slash) refl
closes_here (s ∷ i) (suc n) d le star slash = closes_here i n d (omega (arith, le)) star slash

rest-take : (i : List Symbol) (n : ℕ) → take (length i - n) (drop n i) ≡ drop n i
rest-take i n = take-all (drop n i) (length i - n) (omega (arith, length-drop n i))
  where
    take-all : (j : List Symbol) (m : ℕ) → length j ≤ m → take m j ≡ j
    take-all [] zero le = refl
    take-all [] (suc m) le = refl
    take-all (s ∷ j) zero le = absurd (omega (arith, le))
    take-all (s ∷ j) (suc m) le = ap (λ l. s ∷ l) (take-all j m (omega (arith, le)))

-- likewise, as the code goes on behind the two characters
pub closes_at : (i : List Symbol) (n m k : ℕ) (d : Symbol) → m ≡ suc n → k ≡ suc (suc n) → n < length i → is 42 (slice_index_or i n d) ≡ true → heads (is 47) (take (length i - m) (drop m i)) ≡ true
    → behind_close (drop n i) ≡ Some (take (length i - k) (drop k i))
closes_at i n m k d em ek le star slash =
    closes_here i n d le star (ap (λ l. heads (is 47) (drop l i)) (sym em) ∙ (ap (heads (is 47)) (sym (rest-take i m)) ∙ slash))
    ∙ (ap (λ l. Some (drop l i)) (sym ek) ∙ ap Some (sym (rest-take i k)))

-- a number that is too large stays so
pub too_large : (n : ℕ) (ds : List ℕ) → greatest < n → nat_le (number_from n ds) greatest ≡ false
too_large n ds h = by (nat_le (number_from n ds) greatest) refl
  where
    by : (b : Bool) → nat_le (number_from n ds) greatest ≡ b → nat_le (number_from n ds) greatest ≡ false
    by false e = e
    by true e = absurd (omega (arith, h, number_grows n ds, leb-true (number_from n ds) greatest e))
