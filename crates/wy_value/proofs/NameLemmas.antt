-- Long words are no keywords, and no names of given fields.
use Rattle.std.proofs.Common.{◌≡◌, ℕ, suc, ◌≤◌, max, true, false, List, [], ◌∷◌, length, refl, arith, rules}
use Rattle.std.specs.Str.{bytes_eq, encode_utf8_all}
use Rattle.std.proofs.lemmas.Str.{length-le-encodes}
use Rattle.wy_data.specs.Words.{among, keywords, is_keyword}
use Rattle.wy_value.specs.Grammar.{Entry, given, may_name, is_new}

longer : (k w : List ℕ) → suc (length k) ≤ length w → bytes_eq k w ≡ false
longer [] [] le = absurd (omega arith)
longer [] (c ∷ w) le = refl
longer (c ∷ k) [] le = absurd (omega arith)
longer (c ∷ k) (d ∷ w) le = let e = longer k w (omega arith) in search (rules, e)

shorter : (w k : List ℕ) → suc (length k) ≤ length w → bytes_eq w k ≡ false
shorter [] k le = absurd (omega arith)
shorter (c ∷ w) [] le = refl
shorter (c ∷ w) (d ∷ k) le = let e = shorter w k (omega arith) in search (rules, e)

abbrev longest_of : List (List ℕ) → ℕ
longest_of [] = 0
longest_of (k ∷ ks) = max (suc (length k)) (longest_of ks)

not_among : (ks : List (List ℕ)) (w : List ℕ) → longest_of ks ≤ length w → among ks w ≡ false
not_among [] w le = refl
not_among (k ∷ ks) w le = rw (longer k w (omega arith)) (not_among ks w (omega arith))

-- so many characters are enough to be no keyword
abbrev pub enough : ℕ
enough = longest_of keywords

pub long_name : (w : List ℕ) → enough ≤ length w → may_name w ≡ true
unfolding is_keyword
long_name w le = rw (not_among keywords (encode_utf8_all w) (omega (arith, le, length-le-encodes w))) refl

-- so many are enough to be no field's name
abbrev pub longest : List Entry → ℕ
longest [] = 0
longest (f ∷ fs) = max (suc (length f.0)) (longest fs)

not_given : (fs : List Entry) (name : List ℕ) → longest fs ≤ length name → given fs name ≡ false
not_given [] name le = refl
not_given (f ∷ fs) name le = rw (shorter name f.0 (omega arith)) (not_given fs name (omega arith))

pub long_new : (fs : List Entry) (w : List ℕ) → longest fs ≤ length w → is_new fs w ≡ true
long_new fs w le = rw (not_given fs (encode_utf8_all w) (omega (arith, le, length-le-encodes w))) refl
