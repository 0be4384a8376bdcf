-- One word after the other of two lists.
use Rattle.std.proofs.Common.{◌≡◌, ◌⊎◌, inl, inr, ◌<◌, ◌≤◌, ◌+◌, ℕ, ◌||◌, List, [], ◌∷◌, ◌++◌, length, drop, length-append, sym, ap, ◌∙◌, subst, arith}
use Rattle.std.proofs.lemmas.Bool.{cases_lt}
use Rattle.std.proofs.lemmas.List.{drop_more, get_or_append_left, get_or_push}
use Rattle.wy_lemmas.proofs.Choices.{or_regrouped as or_assoc, or_swapped as or_first, either}
use Rattle.wy_live.specs.declared.merges.Front.{Front}
use Rattle.wy_live.specs.declared.words.Word.{Word}
use Rattle.wy_live.specs.Words.{in_word, in_words, no_word, word_at, place_at, InOrder}
use Rattle.wy_live.specs.Merges.{IsFront}
use Rattle.wy_live.proofs.WordLemmas.{in_push}

-- the word at i, and what is behind it
pub in_drop : (ws : List Word) (i x : ℕ) → i < length ws → in_words (drop i ws) x ≡ (in_word (word_at ws i) x || in_words (drop (i + 1) ws) x)
in_drop ws i x h = ap (λ l. in_words l x) (drop_more ws i no_word h)

-- no word is behind a later one
pub rising : (ws : List Word) (j m : ℕ) → InOrder ws → j ≤ m → m < length ws → place_at ws j ≤ place_at ws m
rising ws j m order l h = either
    (λ (lt : j < m). let up = order.ascending j m lt h in omega (arith, up))
    (λ (le : m ≤ j). let e : j ≡ m = omega (arith, l, le) in subst (λ k. place_at ws j ≤ place_at ws k) e (omega arith))
    (cases_lt j m)

pub front_one : (one other : List Word) (i j : ℕ) (f : Front) → InOrder one → i < length one → j ≤ length other → ((m : ℕ) → j ≤ m → m < length other → place_at one i < place_at other m)
    → f.word ≡ word_at one i → f.one ≡ i + 1 → f.other ≡ j → IsFront one other i j f
front_one one other i j f order h k below w_is i_is j_is =
    let p : f.word.place ≡ place_at one i = ap (λ (w : Word). w.place) w_is in
    record {
      one_within = omega (arith, i_is, h);
      other_within = omega (arith, j_is, k);
      moves = omega (arith, i_is, j_is);
      one_on = omega (arith, i_is);
      other_on = omega (arith, j_is);
      filled = subst (λ (w : Word). 0 < w.bits) (sym w_is) (order.filled i h);
      is_one = inl (h, p);
      before_one = λ m l r. let up = order.ascending i m (omega (arith, i_is, l)) r in omega (arith, up, p);
      before_other = λ m l r. let up = below m (omega (arith, j_is, l)) r in omega (arith, up, p);
      value = λ x.
          ap (λ (w : Word). in_word w x || (in_words (drop f.one one) x || in_words (drop f.other other) x)) w_is
          ∙ ap (λ n. in_word (word_at one i) x || (in_words (drop n one) x || in_words (drop f.other other) x)) i_is
          ∙ ap (λ n. in_word (word_at one i) x || (in_words (drop (i + 1) one) x || in_words (drop n other) x)) j_is
          ∙ or_assoc (in_word (word_at one i) x) (in_words (drop (i + 1) one) x) (in_words (drop j other) x)
          ∙ ap (λ b. b || in_words (drop j other) x) (sym (in_drop one i x h));
    }

pub front_other : (one other : List Word) (i j : ℕ) (f : Front) → InOrder other → j < length other → i ≤ length one → ((m : ℕ) → i ≤ m → m < length one → place_at other j < place_at one m)
    → f.word ≡ word_at other j → f.one ≡ i → f.other ≡ j + 1 → IsFront one other i j f
front_other one other i j f order h k below w_is i_is j_is =
    let p : f.word.place ≡ place_at other j = ap (λ (w : Word). w.place) w_is in
    record {
      one_within = omega (arith, i_is, k);
      other_within = omega (arith, j_is, h);
      moves = omega (arith, i_is, j_is);
      one_on = omega (arith, i_is);
      other_on = omega (arith, j_is);
      filled = subst (λ (w : Word). 0 < w.bits) (sym w_is) (order.filled j h);
      is_one = inr (h, p);
      before_one = λ m l r. let up = below m (omega (arith, i_is, l)) r in omega (arith, up, p);
      before_other = λ m l r. let up = order.ascending j m (omega (arith, j_is, l)) r in omega (arith, up, p);
      value = λ x.
          ap (λ (w : Word). in_word w x || (in_words (drop f.one one) x || in_words (drop f.other other) x)) w_is
          ∙ ap (λ n. in_word (word_at other j) x || (in_words (drop n one) x || in_words (drop f.other other) x)) i_is
          ∙ ap (λ n. in_word (word_at other j) x || (in_words (drop i one) x || in_words (drop n other) x)) j_is
          ∙ or_first (in_word (word_at other j) x) (in_words (drop i one) x) (in_words (drop (j + 1) other) x)
          ∙ ap (λ b. in_words (drop i one) x || b) (sym (in_drop other j x h));
    }

-- ---- the words made so far

place_left : (ws : List Word) (w : Word) (k : ℕ) → k < length ws → place_at (ws ++ w ∷ []) k ≡ place_at ws k
place_left ws w k h = ap (λ (v : Word). v.place) (get_or_append_left ws (w ∷ []) no_word k h)

word_last : (ws : List Word) (w : Word) (k : ℕ) → k ≡ length ws → word_at (ws ++ w ∷ []) k ≡ w
word_last ws w k e = get_or_push ws w no_word k (sym e)

length_more : (ws : List Word) (w : Word) → length (ws ++ w ∷ []) ≡ length ws + 1
length_more ws w = length-append ws (w ∷ [])

-- each is one of those before, or the last
more_cases : (ws : List Word) (w : Word) (k : ℕ) → k < length (ws ++ w ∷ []) → (k < length ws) ⊎ (k ≡ length ws)
more_cases ws w k h = let n = length_more ws w in either (λ (l : k < length ws). inl l) (λ (g : length ws ≤ k). inr (omega (arith, n, h, g))) (cases_lt k (length ws))

order_push : (ws : List Word) (w : Word) → InOrder ws → ((j : ℕ) → j < length ws → place_at ws j < w.place) → 0 < w.bits → InOrder (ws ++ w ∷ [])
order_push ws w order below f = record {
  ascending = λ j k l h. either
      (λ (a : k < length ws). let up = order.ascending j k l a in let p = place_left ws w j (omega (arith, l, a)) in let q = place_left ws w k a in omega (arith, up, p, q))
      (λ (e : k ≡ length ws). let r : j < length ws = omega (arith, l, e) in let up = below j r in let p = place_left ws w j r in let q : place_at (ws ++ w ∷ []) k ≡ w.place = ap (λ (v : Word). v.place) (word_last ws w k e) in omega (arith, up, p, q))
      (more_cases ws w k h);
  filled = λ k h. either
      (λ (a : k < length ws). subst (λ (v : Word). 0 < v.bits) (sym (get_or_append_left ws (w ∷ []) no_word k a)) (order.filled k a))
      (λ (e : k ≡ length ws). subst (λ (v : Word). 0 < v.bits) (sym (word_last ws w k e)) f)
      (more_cases ws w k h);
}

pub record Merging (one other made : List Word) (i j : ℕ) : Type 0 where
  pub order : InOrder made
  pub before_one : (k m : ℕ) → k < length made → i ≤ m → m < length one → place_at made k < place_at one m
  pub before_other : (k m : ℕ) → k < length made → j ≤ m → m < length other → place_at made k < place_at other m
  pub value : (x : ℕ) → (in_words made x || (in_words (drop i one) x || in_words (drop j other) x)) ≡ (in_words one x || in_words other x)

below_front : (one other made : List Word) (i j : ℕ) (f : Front) → Merging one other made i j → IsFront one other i j f → (k : ℕ) → k < length made → place_at made k < f.word.place
below_front one other made i j f so is k h = either
    (λ (t : (i < length one) × (f.word.place ≡ place_at one i)). let b = so.before_one k i h (omega arith) t.0 in let e = t.1 in omega (arith, b, e))
    (λ (t : (j < length other) × (f.word.place ≡ place_at other j)). let b = so.before_other k j h (omega arith) t.0 in let e = t.1 in omega (arith, b, e))
    is.is_one

pub merging_more : (one other made : List Word) (i j : ℕ) (f : Front) → Merging one other made i j → IsFront one other i j f → Merging one other (made ++ f.word ∷ []) f.one f.other
merging_more one other made i j f so is = record {
  order = order_push made f.word so.order (below_front one other made i j f so is) is.filled;
  before_one = λ k m h l r. either
      (λ (a : k < length made). let on = is.one_on in let b = so.before_one k m a (omega (arith, on, l)) r in let p = place_left made f.word k a in omega (arith, b, p))
      (λ (e : k ≡ length made). let b = is.before_one m l r in let q : place_at (made ++ f.word ∷ []) k ≡ f.word.place = ap (λ (v : Word). v.place) (word_last made f.word k e) in omega (arith, b, q))
      (more_cases made f.word k h);
  before_other = λ k m h l r. either
      (λ (a : k < length made). let on = is.other_on in let b = so.before_other k m a (omega (arith, on, l)) r in let p = place_left made f.word k a in omega (arith, b, p))
      (λ (e : k ≡ length made). let b = is.before_other m l r in let q : place_at (made ++ f.word ∷ []) k ≡ f.word.place = ap (λ (v : Word). v.place) (word_last made f.word k e) in omega (arith, b, q))
      (more_cases made f.word k h);
  value = λ x.
      ap (λ b. b || (in_words (drop f.one one) x || in_words (drop f.other other) x)) (in_push made f.word x)
      ∙ sym (or_assoc (in_words made x) (in_word f.word x) (in_words (drop f.one one) x || in_words (drop f.other other) x))
      ∙ ap (λ b. in_words made x || b) (is.value x)
      ∙ so.value x;
}
