-- The first variable that is in the one list of words and not in the other, word by word.
use Rattle.std.proofs.Common.{◌≡◌, ◌<◌, ◌≤◌, ◌+◌, ◌*◌, ◌/◌, ◌%◌, ℕ, true, false, ◌==◌, List, length, take, drop, sym, ap, ◌∙◌, arith}
use Rattle.std.proofs.lemmas.List.{take-append-drop, take_more, get_or-take, get_or-drop, length-take-le, length-drop}
use Rattle.std.proofs.lemmas.Nat.{div-mul-add, mod-mul-add}
use Rattle.wy_lemmas.proofs.Choices.{both_parts as and_both, or_cases, same_of, false_true as never, either}
use Rattle.wy_live.specs.declared.words.Word.{Word}
use Rattle.wy_live.specs.Apart.{IsNext, IsLeast}
use Rattle.wy_live.specs.Words.{is_set, in_word, in_words, no_word, word_at, place_at, bits_at, InOrder, BeginsAt}
use Rattle.wy_live.proofs.MergeLemmas.{in_drop}
use Rattle.wy_live.proofs.WordLemmas.{in_append, in_push, none_there, in_at}

pub record Passing (one other : List Word) (from i j : ℕ) : Type 0 where
  pub one_within : i ≤ length one
  pub other_within : j ≤ length other
  pub behind : (m : ℕ) → i ≤ m → m < length one → from / 64 ≤ place_at one m
  pub before : (k m : ℕ) → k < j → i ≤ m → m < length one → place_at other k < place_at one m
  pub passed : (x : ℕ) → from ≤ x → in_words (take i one) x ≡ true → in_words other x ≡ true

div_below : (a b : ℕ) → a ≤ b → a / 64 ≤ b / 64
div_below a b h = omega arith

-- before the first word nothing is passed
pub passing_begun : (one other : List Word) (from i j : ℕ) → BeginsAt one (from / 64) i → BeginsAt other (from / 64) j → Passing one other from i j
passing_begun one other from i j a b = record {
  one_within = a.bound;
  other_within = b.bound;
  behind = λ m l h. a.behind m l h;
  before = λ k m k_in l h. let p = b.before k k_in in let q = a.behind m l h in omega (arith, p, q);
  passed = λ x l is. let n : in_words (take i one) x ≡ false = none_there (take i one) x (λ k h same.
      let len = length-take-le i one a.bound in
      let k_in : k < i = omega (arith, len, h) in
      let p = a.before k k_in in
      let e : place_at (take i one) k ≡ place_at one k = ap (λ (w : Word). w.place) (get_or-take i one k no_word k_in) in
      let d = div_below from x l in
      absurd (omega (arith, p, e, d, same))) in never (sym n ∙ is);
}

-- a variable of a word
in_this : (w : Word) (x : ℕ) → in_word w x ≡ true → (w.place ≡ x / 64) × (is_set w.bits (x % 64) ≡ true)
in_this w x h = let p = and_both (w.place == x / 64) (is_set w.bits (x % 64)) h in (same_of w.place (x / 64) p.0, p.1)

module _ (one other : List Word) (from i j j2 bits least bit : ℕ) (up : InOrder one) (so : Passing one other from i j) (h : i < length one) (begins : BeginsAt other (place_at one i) j2)
    (has : (x : ℕ) → x / 64 ≡ place_at one i → in_words other x ≡ is_set bits (x % 64)) (is_least : IsLeast (place_at one i) from least)
    (between : (k : ℕ) → least ≤ k → k < bit → is_set (bits_at one i) k ≡ true → is_set bits k ≡ true) where
  -- what is in the word before the bit is in the other
  in_other : (x : ℕ) → from ≤ x → x % 64 < bit → in_word (word_at one i) x ≡ true → in_words other x ≡ true
  in_other x l r is =
      let p = in_this (word_at one i) x is in
      let e : place_at one i ≡ x / 64 = p.0 in
      let least_is : least ≤ x % 64 = is_least.before (x % 64) (omega arith) (omega (arith, e, l)) in
      has x (sym e) ∙ between (x % 64) least_is r p.1

  pub passing_more : 64 ≤ bit → Passing one other from (i + 1) j2
  passing_more all = record {
    one_within = omega (arith, h);
    other_within = begins.bound;
    behind = λ m l r. so.behind m (omega (arith, l)) r;
    before = λ k m k_in l r. let a = begins.before k k_in in let b = up.ascending i m (omega (arith, l)) r in omega (arith, a, b);
    passed = λ x l is. either
        (λ (a : in_words (take i one) x ≡ true). so.passed x l a)
        (λ (b : in_word (word_at one i) x ≡ true). in_other x l (omega (arith, all)) b)
        (or_cases (in_words (take i one) x) (in_word (word_at one i) x) (sym (ap (λ t. in_words t x) (take_more one i no_word h) ∙ in_push (take i one) (word_at one i) x) ∙ is));
  }

  -- behind the word there are greater ones alone
  none_later : (y : ℕ) → y < place_at one i * 64 + bit → bit < 64 → in_words (drop (i + 1) one) y ≡ false
  none_later y r b = none_there (drop (i + 1) one) y (λ k l same.
      let len = length-drop (i + 1) one in
      let e : place_at (drop (i + 1) one) k ≡ place_at one (i + 1 + k) = ap (λ (w : Word). w.place) (get_or-drop (i + 1) one k no_word) in
      let u = up.ascending i (i + 1 + k) (omega arith) (omega (arith, len, l)) in
      absurd (omega (arith, e, u, same, r, b)))

  pub next_found : bit < 64 → least ≤ bit → (is_set (bits_at one i) bit ≡ true) × (is_set bits bit ≡ false) → IsNext one other from (place_at one i * 64 + bit)
  next_found b l found =
      let x = place_at one i * 64 + bit in
      let d : x / 64 ≡ place_at one i = div-mul-add (place_at one i) 64 bit b in
      let m : x % 64 ≡ bit = mod-mul-add (place_at one i) 64 bit b in
      record {
        behind = is_least.behind bit b l;
        in_one = in_at one i x up.ascending h (sym d) ∙ (ap (λ k. is_set (bits_at one i) k) m ∙ found.0);
        not_in_other = has x d ∙ (ap (λ k. is_set bits k) m ∙ found.1);
        between = λ y from_y y_x is. either
            (λ (a : in_words (take i one) y ≡ true). so.passed y from_y a)
            (λ (a : in_words (drop i one) y ≡ true). either
            (λ (c : in_word (word_at one i) y ≡ true). let e = (in_this (word_at one i) y c).0 in in_other y from_y (omega (arith, e, y_x)) c)
            (λ (c : in_words (drop (i + 1) one) y ≡ true). never (sym (none_later y y_x b) ∙ c))
            (or_cases (in_word (word_at one i) y) (in_words (drop (i + 1) one) y) (sym (in_drop one i y h) ∙ a)))
            (or_cases (in_words (take i one) y) (in_words (drop i one) y) (sym (ap (λ t. in_words t y) (sym (take-append-drop i one)) ∙ in_append (take i one) (drop i one) y) ∙ is));
      }
