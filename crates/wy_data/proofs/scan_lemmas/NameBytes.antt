-- Each byte of a name of the language is a word's, and the first is no digit.
use Rattle.std.proofs.Common.{◌≡◌, ℕ, suc, ◌<◌, ◌≤◌, Bool, true, false, ◌||◌, ◌==◌, nat_lt, ◌⊎◌, inl, inr, List, [], ◌∷◌, ◌++◌, length, get_or, refl, sym, ◌∙◌, subst, arith, eqb-true}
use Rattle.std.proofs.lemmas.List.{append-nil}
use Rattle.std.proofs.lemmas.Str.{encode_ascii, inside_one, encodes-chars, length-encode, len_utf8_bounds}
use Rattle.std.specs.Char.{is_ascii_alphabetic, is_ascii_alphanumeric}
use Rattle.std.specs.Str.{chars}
use lib.Utf8.{encode, encodes}
use Rattle.wy_data.specs.Words.{IsName, is_word, is_start, is_part, all_parts}
use Rattle.wy_data.proofs.WordLemmas.{is_start-ascii, is_part-ascii}
use Rattle.unicode_ident.specs.Ident.{is_xid_start}
use Rattle.unicode_ident.proofs.IdentLemmas.{is_xid_start-is_xid_continue}
use Rattle.wy_lemmas.proofs.Choices.{and-left as and_first, and-right as and_second}
use Rattle.wy_data.specs.scan.Front.{is_digit, is_word_byte, heads, AllPass}
use Rattle.wy_data.specs.scan.Words.{IsWord}

below : (c : ℕ) → nat_lt c 128 ≡ true → c < 128
below c e = grind arith

above : (c : ℕ) → nat_lt c 128 ≡ false → 128 ≤ c
above c e = grind arith

split : (c : ℕ) → (c < 128) ⊎ (128 ≤ c)
split c = by (nat_lt c 128) refl
  where
    by : (b : Bool) → nat_lt c 128 ≡ b → (c < 128) ⊎ (128 ≤ c)
    by true e = inl (below c e)
    by false e = inr (above c e)

high : (b : ℕ) → 128 ≤ b → is_word_byte b ≡ true
high b h = grind arith

high_no_digit : (b : ℕ) → 128 ≤ b → is_digit b ≡ false
high_no_digit b h = grind arith

low : (c : ℕ) → (is_ascii_alphanumeric c || (c == 95)) ≡ true → is_word_byte c ≡ true
low c h = grind arith

low_no_digit : (c : ℕ) → (is_ascii_alphabetic c || (c == 95)) ≡ true → is_digit c ≡ false
low_no_digit c h = grind arith

by_index : (bs : List ℕ) → ((k : ℕ) → k < length bs → 128 ≤ get_or bs k 0) → AllPass is_word_byte bs
by_index [] h = tt
by_index (b ∷ bs) h = (high b (h 0 (omega arith)), by_index bs (λ k lt. h (suc k) (omega arith)))

-- each byte of a character that isn't ASCII isn't either
high_bytes : (c k : ℕ) → 128 ≤ c → k < length (encode c) → 128 ≤ get_or (encode c) k 0
high_bytes c k h lt = either (split (get_or (encode c) k 0))
  where
    either : (get_or (encode c) k 0 < 128) ⊎ (128 ≤ get_or (encode c) k 0) → 128 ≤ get_or (encode c) k 0
    either (inl small) = let e = inside_one c [] (encode c) k (sym (append-nil (encode c))) lt small in omega arith
    either (inr large) = large

part_bytes : (c : ℕ) → is_part c ≡ true → AllPass is_word_byte (encode c)
part_bytes c h = either (split c)
  where
    either : (c < 128) ⊎ (128 ≤ c) → AllPass is_word_byte (encode c)
    either (inl small) = subst (AllPass is_word_byte) (sym (encode_ascii c small)) (low c (sym (is_part-ascii c small) ∙ h), tt)
    either (inr large) = by_index (encode c) (λ k lt. high_bytes c k large lt)

pass_append : (test : ℕ → Bool) (xs ys : List ℕ) → AllPass test xs → AllPass test ys → AllPass test (xs ++ ys)
pass_append test [] ys a b = b
pass_append test (x ∷ xs) ys a b = (a.0, pass_append test xs ys a.1 b)

parts_bytes : (cs : List ℕ) → all_parts cs ≡ true → AllPass is_word_byte (encodes cs)
parts_bytes [] h = tt
parts_bytes (c ∷ cs) h = pass_append is_word_byte (encode c) (encodes cs) (part_bytes c (and_first (is_part c) (all_parts cs) h)) (parts_bytes cs (and_second (is_part c) (all_parts cs) h))

first_high : (bs r : List ℕ) → 0 < length bs → 128 ≤ get_or bs 0 0 → heads is_digit (bs ++ r) ≡ false
first_high [] r some large = absurd (omega arith)
first_high (b ∷ bs) r some large = high_no_digit b large

-- what may begin a name is no digit
start_no_digit : (c : ℕ) (r : List ℕ) → is_start c ≡ true → heads is_digit (encode c ++ r) ≡ false
start_no_digit c r h = either (split c)
  where
    either : (c < 128) ⊎ (128 ≤ c) → heads is_digit (encode c ++ r) ≡ false
    either (inl small) = subst (λ bs. heads is_digit (bs ++ r) ≡ false) (sym (encode_ascii c small)) (low_no_digit c (sym (is_start-ascii c small) ∙ h))
    either (inr large) =
        let some : 0 < length (encode c) = omega (arith, length-encode c, len_utf8_bounds c) in
        first_high (encode c) r some (high_bytes c 0 large some)

start_part : (c : ℕ) → is_start c ≡ true → is_part c ≡ true
start_part c h = by (is_xid_start c) refl h
  where
    by : (b : Bool) → is_xid_start c ≡ b → (b || (c == 95)) ≡ true → is_part c ≡ true
    by true e h = is_xid_start-is_xid_continue c e
    by false e h = let same : c ≡ 95 = eqb-true c 95 h in subst (λ x. is_part x ≡ true) (sym same) (is_part-ascii 95 (omega arith))

by_chars : (cs w : List ℕ) → encodes cs ≡ w → is_word cs ≡ true → IsName w → IsWord w
by_chars [] w e h n = absurd (cc)
by_chars (c ∷ cs) w e h n =
    let s : is_start c ≡ true = and_first (is_start c) (all_parts cs) h in
    let p : all_parts cs ≡ true = and_second (is_start c) (all_parts cs) h in
    record {
      name = n;
      bytes = subst (AllPass is_word_byte) e (pass_append is_word_byte (encode c) (encodes cs) (part_bytes c (start_part c s)) (parts_bytes cs p));
      start = subst (λ x. heads is_digit x ≡ false) e (start_no_digit c (encodes cs) s);
    }

pub name_is_word : (w : List ℕ) → IsName w → IsWord w
name_is_word w n = by_chars (chars w) w (encodes-chars w n.0) n.1 n
