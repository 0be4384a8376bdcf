-- A name that is longer than any of given ones.
use Rattle.std.proofs.Common.{◌≡◌, ℕ, zero, suc, ◌+◌, ◌≤◌, List, [], ◌∷◌, length, true, false, inl, inr, refl, sym, ap, subst, arith}
use Rattle.std.specs.Str.{IsAscii, encode_utf8_all}
use Rattle.std.proofs.lemmas.Str.{encodes-IsAscii, IsUtf8-from_ascii, chars-IsAscii}
use Rattle.wy_data.specs.Words.{IsName, is_word, is_start, is_part, all_parts, is_keyword}
use Rattle.wy_data.proofs.WordLemmas.{is_start-ascii, is_part-ascii}
use Rattle.wy_lemmas.proofs.Choices.{not_true as denied}
use Rattle.wy_value.proofs.NameLemmas.{enough, long_name}
use Rattle.wy_types.specs.Claims.{IsIn}

-- so many letters
abbrev letters : ℕ → List ℕ
letters zero = []
letters (suc n) = 97 ∷ letters n

length-letters : (n : ℕ) → length (letters n) ≡ n
length-letters zero = refl
length-letters (suc n) = let e = length-letters n in omega (arith, e)

letters-ascii : (n : ℕ) → IsAscii (letters n)
letters-ascii zero i = omega arith
letters-ascii (suc n) zero = omega arith
letters-ascii (suc n) (suc i) = letters-ascii n i

start-letter : is_start 97 ≡ true
start-letter = is_start-ascii 97 (omega arith)

part-letter : is_part 97 ≡ true
part-letter = is_part-ascii 97 (omega arith)

letters-parts : (n : ℕ) → all_parts (letters n) ≡ true
letters-parts zero = refl
letters-parts (suc n) = rw part-letter (letters-parts n)

letters-word : (n : ℕ) → is_word (letters (suc n)) ≡ true
letters-word n = rw start-letter (letters-parts n)

letters-no_keyword : (n : ℕ) → enough ≤ n → is_keyword (letters n) ≡ false
letters-no_keyword n le =
    subst (λ (w : List ℕ). is_keyword w ≡ false) (encodes-IsAscii (letters n) (letters-ascii n))
    (denied (is_keyword (encode_utf8_all (letters n))) (long_name (letters n) (let e = length-letters n in omega (arith, e, le))))

letters-name : (n : ℕ) → enough ≤ suc n → IsName (letters (suc n))
letters-name n le = (
  IsUtf8-from_ascii (letters (suc n)) (letters-ascii (suc n)),
  subst (λ (w : List ℕ). is_word w ≡ true) (sym (chars-IsAscii (letters (suc n)) (letters-ascii (suc n)))) (letters-word n),
  letters-no_keyword (suc n) le,
)

-- ---- longer than each name in the lists

abbrev all_of : List (List ℕ) → ℕ
all_of [] = 0
all_of (n ∷ ns) = length n + all_of ns

abbrev all_in : List (List (List ℕ)) → ℕ
all_in [] = 0
all_in (r ∷ rs) = all_of r + all_in rs

within : (name : List ℕ) (rs : List (List (List ℕ))) → IsIn (name ∷ []) rs → length name ≤ all_in rs
within name [] h = absurd h
within name (r ∷ rs) (inl e) = let g : all_of r ≡ length name + 0 = ap all_of e in omega (arith, g)
within name (r ∷ rs) (inr h) = let g = within name rs h in omega (arith, g)

pub fresh : List (List (List ℕ)) → List ℕ
fresh rs = letters (suc (enough + all_in rs))

pub fresh-name : (rs : List (List (List ℕ))) → IsName (fresh rs)
unfolding fresh
fresh-name rs = letters-name (enough + all_in rs) (omega arith)

-- it stands alone in none of them
pub fresh-none : (rs : List (List (List ℕ))) → IsIn (fresh rs ∷ []) rs → ⊥
unfolding fresh
fresh-none rs h = let g = within (fresh rs) rs h in let e = length-letters (suc (enough + all_in rs)) in omega (arith, g, e)
