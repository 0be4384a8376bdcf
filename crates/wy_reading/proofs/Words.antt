-- Words and texts that are spelled out: `Spelled`, `Word`, `Only`.
use Rattle.std.proofs.Common.{◌≡◌, ℕ, zero, suc, ◌+◌, ◌≤◌, Bool, true, false, cond, List, [], ◌∷◌, ◌++◌, length, Ok, Err, ◌⊎◌, inl, inr, refl, sym, ap, ◌∙◌, subst, arith, append_assoc, append-nil, length-append}
use Rattle.std.specs.Bool.{⊤}
use Rattle.wy_reading.specs.declared.stop.Stop.{Stop}
use Rattle.wy_reading.specs.declared.stop.Stop.TheVariants.{Unexpected, Fault}
use Rattle.wy_reading.specs.Mode.{Mode}
use Rattle.wy_reading.specs.Rule.{heads, Turns, Only, Letter, Word, Skip, Spelled}
use Rattle.wy_reading.specs.Reader.{Reader, Outcome, and_then, refuse, one, loop, while, only, letter, word, skip, spelled}
use Rattle.wy_reading.specs.Rule.Turns.{stop, more}
use Rattle.wy_reading.proofs.Exactness.{Stuck, ExactTo, Exact, Any, Passes, Lacks}
use Rattle.wy_reading.proofs.Outcomes.{and_then-ok, and_then-err, ok-parts, if-cases, SameHead-heads}
use Rattle.wy_reading.proofs.Sequence.{sequence}
use Rattle.wy_reading.proofs.Single.{nothing, symbol, one-exact, one-fails}
use Rattle.wy_reading.proofs.Repetition.{repetition}

-- ---- what is spelled out

-- how a spelled text begins
abbrev pub Starts : {S : Type 0} → (S → S → Bool) → (List S → Type 0) → List S → List S → Type 0
Starts same F [] = F
Starts same F (s ∷ text) = Passes (same s)

module _ {S : Type 0} (X : Type 0) (n : Mode) (same : S → S → Bool) (same-refl : (s : S) → same s s ≡ true) (F : List S → Type 0) where
  pub spelled-exact : (text : List S) → Exact {X = X} n (Spelled same text) (λ m. spelled same text) F (Starts same F text)
  spelled-exact [] = nothing tt
  spelled-exact (s ∷ text) = sequence (one-exact n (same s) (λ r. Starts same F text) s (same-refl s) (λ b. ⊤) tt) (λ r. spelled-exact text) (λ i f. f)

-- ---- symbols that are passed over

-- some symbol that passes the test is given
pub skip-exact : {S X : Type 0} {n : Mode} {F : List S → Type 0} (test : S → Bool) (some : S) → test some ≡ true → ((i : List S) → F i → heads test i ≡ false) → F []
    → Exact {S = S} {X = X} n (Skip test) (λ m. skip test) F (λ i. F i ⊎ Passes test i)
skip-exact test some good halts empty =
    repetition {G = Any} test (λ u. sequence (symbol test some good) (λ r. nothing tt) (λ i f. f)) (λ i h. h) halts (λ i f. tt) (λ i h. tt) empty tt

-- ---- words

abbrev pub AllPass : {S : Type 0} → (S → Bool) → List S → Type 0
AllPass test [] = ⊤
AllPass test (c ∷ cs) = (test c ≡ true) × AllPass test cs

pub repeated : {S : Type 0} → S → ℕ → List S
repeated c zero = []
repeated c (suc n) = c ∷ repeated c n

repeated-length : {S : Type 0} (c : S) (n : ℕ) → length (repeated c n) ≡ n
unfolding repeated
repeated-length c zero = refl
repeated-length c (suc n) = let e = repeated-length c n in omega (arith, e)

repeated-passes : {S : Type 0} (test : S → Bool) (c : S) → test c ≡ true → (n : ℕ) → AllPass test (repeated c n)
unfolding repeated
repeated-passes test c h zero = tt
repeated-passes test c h (suc n) = (h, repeated-passes test c h n)

pub all-append : {S : Type 0} (test : S → Bool) (a b : List S) → AllPass test a → AllPass test b → AllPass test (a ++ b)
all-append test [] b h g = g
all-append test (c ∷ a) b h g = (h.0, all-append test a b h.1 g)

-- a whole word
pub record IsWordOf {S : Type 0} (start part : S → Bool) (w : List S) : Type 0 where
  pub head : S
  pub tail : List S
  pub shape : w ≡ head ∷ tail
  pub starts : start head ≡ true
  pub goes_on : AllPass part tail

module _ {S : Type 0} (X : Type 0) (start part : S → Bool) (begin : S) (begins : start begin ≡ true) (letter_of : S) (is_letter : part letter_of ≡ true) where
  abbrev IsWord : List S → Type 0
  IsWord w = IsWordOf start part w

  abbrev word_read : Mode → Reader S X (List S)
  word_read m = word start part

  word-plain : (n : Mode) → Exact n (Word start part) word_read (Lacks part) (Passes start)
  word-plain n =
      sequence (symbol start begin begins)
      (λ s. repetition {F = Lacks part} {G = Any} part (λ w. sequence (symbol part letter_of is_letter) (λ c. nothing (w ++ c ∷ [])) (λ i f. f)) (λ i h. h) (λ i f. f) (λ i f. tt) (λ i h. tt) refl (s ∷ []))
      (λ i f. f)

  run-is : {w i t k : List S} → Turns {X = X} (Letter part) w i t k → (cs : List S) × AllPass part cs × (t ≡ w ++ cs) × (i ≡ cs ++ k)
  run-is {w} {i} {t} {k} (stop et ek) = ([], tt, et ∙ sym (append-nil w), ek)
  run-is {w} {i} {t} {k} (more b j r rest) =
      let d = run-is rest in
      let c = r.0 in
      (c ∷ d.0, (r.2.0, d.1), d.2 ∙ (ap (λ l. l ++ d.0) r.3.0 ∙ append_assoc w (c ∷ []) d.0), r.2.1 ∙ ap (λ l. c ∷ l) (r.3.1 ∙ d.3))

  run-of : (w cs z : List S) → AllPass part cs → Turns {X = X} (Letter part) w (cs ++ z) (w ++ cs) z
  run-of w [] z h = stop (append-nil w) refl
  run-of w (c ∷ cs) z h =
      more (w ++ c ∷ []) (cs ++ z) (c, cs ++ z, (h.0, refl), (refl, refl))
      (subst (λ l. Turns {X = X} (Letter part) (w ++ c ∷ []) (cs ++ z) l z) (append_assoc w (c ∷ []) cs) (run-of (w ++ c ∷ []) cs z h.1))

  pub word-is : (i w j : List S) → (Word {X = X} start part).reads i w j → IsWord w × (i ≡ w ++ j)
  word-is i w j h =
      let d = run-is h.3 in
      (record { head = h.0; tail = d.0; shape = d.2; starts = h.2.0; goes_on = d.1 }, h.2.1 ∙ (ap (λ l. h.0 ∷ l) d.3 ∙ ap (λ l. l ++ j) (sym d.2)))

  pub word-of : (w z : List S) → IsWord w → (Word {X = X} start part).reads (w ++ z) w z
  word-of w z d = rw (d.shape) (d.head, d.tail ++ z, (d.starts, refl), run-of (d.head ∷ []) d.tail z d.goes_on)

  pub word-reads : (w z : List S) → IsWord w → heads part z ≡ false → (let r : Outcome S X (List S) = word start part (w ++ z) in r ≡ Ok (w, z))
  word-reads w z d f = (word-plain (record { depth = 0; strict = true })).complete (w ++ z) w z (word-of w z d) f

  -- ---- a word is read as far as it goes

  abbrev Turned : S → List S → ℕ → List S → Outcome S X (List S) → Type 0
  Turned c i f w r = ((part c ≡ true) × (and_then (letter part w (c ∷ i)) (loop part (letter part) f) ≡ r)) ⊎ ((part c ≡ false) × (let end : Outcome S X (List S) = Ok (w, c ∷ i) in end ≡ r))

  turned : (c : S) (i : List S) (f : ℕ) (w : List S) (r : Outcome S X (List S)) → loop part (letter part) (suc f) w (c ∷ i) ≡ r → Turned c i f w r
  turned c i f w r e = if-cases (part c) _ _ _ e

  taken : (c : S) (i : List S) (f : ℕ) (w : List S) (r : Outcome S X (List S)) → part c ≡ true → and_then (letter part w (c ∷ i)) (loop part (letter part) f) ≡ r → loop part (letter part) f (w ++ c ∷ []) i ≡ r
  taken c i f w r h e =
      let here : (let l : Outcome S X (List S) = letter part w (c ∷ i) in l ≡ Ok (w ++ c ∷ [], i)) = rw h refl in
      sym (ap (λ l. and_then l (loop part (letter part) f)) here) ∙ e

  never : (f : ℕ) (w i : List S) (y : Stop X) → loop part (letter part) f w i ≡ Err y → ⊥
  never zero w i y e = absurd (cc)
  never (suc f) w [] y e = absurd (cc)
  never (suc f) w (c ∷ i) y e = by (λ v l. never f v l y) (turned c i f w (Err y) e)
    where
      by : ((v l : List S) → loop part (letter part) f v l ≡ Err y → ⊥) → Turned c i f w (Err y) → ⊥
      by ih (inl d) = ih (w ++ c ∷ []) i (taken c i f w (Err y) d.0 d.1)
      by ih (inr d) = let bad = d.1 in absurd (cc)

  ends : (f : ℕ) (w i t k : List S) → length i ≤ f → loop {X = X} part (letter part) f w i ≡ Ok (t, k) → heads part k ≡ false
  ends zero w [] t k le e = ap (λ l. heads part l) (sym (ok-parts w t [] k e).1)
  ends zero w (c ∷ i) t k le e = absurd (omega arith)
  ends (suc f) w [] t k le e = ap (λ l. heads part l) (sym (ok-parts w t [] k e).1)
  ends (suc f) w (c ∷ i) t k le e = by (λ v l. ends f v l t k) (turned c i f w (Ok (t, k)) e)
    where
      by : ((v l : List S) → length l ≤ f → loop {X = X} part (letter part) f v l ≡ Ok (t, k) → heads part k ≡ false) → Turned c i f w (Ok (t, k)) → heads part k ≡ false
      by ih (inl d) = ih (w ++ c ∷ []) i (omega arith) (taken c i f w (Ok (t, k)) d.0 d.1)
      by ih (inr d) = let s = ok-parts w t (c ∷ i) k d.1 in ap (λ l. heads part l) (sym s.1) ∙ d.0

  pub word-ends : (i w j : List S) → (let r : Outcome S X (List S) = word start part i in r ≡ Ok (w, j)) → heads part j ≡ false
  word-ends i w j e = let y = and_then-ok (one start i) (λ s. while part (letter part) (s ∷ [])) (w, j) e in ends (length y.0.1) (y.0.0 ∷ []) y.0.1 w j (omega arith) y.2

  word-starts : (i : List S) (k : ℕ) → (let r : Outcome S X (List S) = word start part i in r ≡ Err (Unexpected k)) → (k ≡ length i) × (heads start i ≡ false)
  word-starts i k e = by (and_then-err (one start i) (λ s. while part (letter part) (s ∷ [])) (Unexpected k) e)
    where
      by : (let r : Outcome S X S = one start i in r ≡ Err (Unexpected k)) ⊎ ((y : S × List S) × (let r : Outcome S X S = one start i in r ≡ Ok y) × (while {X = X} part (letter part) (y.0 ∷ []) y.1 ≡ Err (Unexpected k))) → (k ≡ length i) × (heads start i ≡ false)
      by (inl h) = one-fails (record { depth = 0; strict = true }) start (λ b. Any) begin begins (λ b. ⊤) tt i k h
      by (inr y) = absurd (never (length y.0.1) (y.0.0 ∷ []) y.0.1 (Unexpected k) y.2)

  word-refuses : (j : List S) → heads start j ≡ false → (let r : Outcome S X (List S) = word start part j in r ≡ Err (Unexpected (length j)))
  word-refuses [] h = refl
  word-refuses (s ∷ j) h = rw h refl

  passes-front : (w z : List S) → IsWord w → heads start (w ++ z) ≡ true
  passes-front w z d = rw (d.shape) d.starts

  -- a word can be begun that is a given word in P
  pub word-exact : (n : Mode) (P : List S → Type 0) (w : List S) → IsWord w → P w → ExactTo n (Word start part) word_read (λ w. Lacks part) (Passes start) P
  word-exact n P w d p = let e = word-plain n in record {
    sound = e.sound;
    complete = e.complete;
    first = e.first;
    met = e.met;
    meets = e.meets;
    done = e.done;
    stuck = λ i k h. let s = word-starts i k h in record {
      front = [];
      back = i;
      cut = refl;
      left = s.0;
      again = λ m le j' g. word-refuses j' (sym (SameHead-heads start i j' g) ∙ s.1);
      ending = w;
      made = w;
      wanted = p;
      deep = 0;
      alive = λ m le deep z f. word-reads w z d f;
      starts = λ z f. passes-front w z d;
    };
    sample = record {
      text = w;
      made = w;
      wanted = p;
      deep = 0;
      alive = λ m le deep z f. word-reads w z d f;
      starts = λ z f. passes-front w z d;
    };
  }

  -- ---- names: words that pass a test, as each long word does

  module _ (n : Mode) (ok : List S → Bool) (enough : ℕ) (long : (w : List S) → enough ≤ length w → ok w ≡ true) (most : ℕ) where
    abbrev name_read : Mode → Reader S X (List S)
    name_read m = only ok (word start part)

    abbrev Long : List S → Type 0
    Long w = most ≤ length w

    more_letters : List S
    more_letters = repeated letter_of (enough + most)

    lengthened : (w : List S) → IsWord w → IsWord (w ++ more_letters)
    unfolding more_letters
    lengthened w d = record {
      head = d.head;
      tail = d.tail ++ more_letters;
      shape = ap (λ l. l ++ more_letters) d.shape;
      starts = d.starts;
      goes_on = all-append part d.tail more_letters d.goes_on (repeated-passes part letter_of is_letter (enough + most));
    }

    long-enough : (w : List S) → enough + most ≤ length (w ++ more_letters)
    unfolding more_letters
    long-enough w = omega (arith, length-append w (repeated letter_of (enough + most)), repeated-length letter_of (enough + most))

    short_word : IsWord (begin ∷ [])
    short_word = record { head = begin; tail = []; shape = refl; starts = begins; goes_on = tt }

    abbrev after : List S → Reader S X (List S)
    after w j = cond (ok w) (Ok (w, j)) (refuse j)

    abbrev Tested : List S → List S → Outcome S X (List S) → Type 0
    Tested w j r = ((ok w ≡ true) × (let well : Outcome S X (List S) = Ok (w, j) in well ≡ r)) ⊎ ((ok w ≡ false) × (let bad : Outcome S X (List S) = refuse j in bad ≡ r))

    tested : (w j : List S) (r : Outcome S X (List S)) → after w j ≡ r → Tested w j r
    tested w j r h = if-cases (ok w) _ _ _ h

    passed : (i w j : List S) → name_read n i ≡ Ok (w, j) → (word_read n i ≡ Ok (w, j)) × (ok w ≡ true)
    passed i w j h =
        let y = and_then-ok (word_read n i) after (w, j) h in
        by y.0.0 y.0.1 y.1 (tested y.0.0 y.0.1 (Ok (w, j)) y.2)
      where
        by : (b k : List S) → word_read n i ≡ Ok (b, k) → Tested b k (Ok (w, j)) → (word_read n i ≡ Ok (w, j)) × (ok w ≡ true)
        by b k g (inl d) = let s = ok-parts b w k j d.1 in (g ∙ d.1, ap ok (sym s.0) ∙ d.0)
        by b k g (inr d) = let bad = d.1 in absurd (cc)

    abbrev Rejects : List S → Stop X → Type 0
    Rejects i y = (w : List S) × (j : List S) × (word_read n i ≡ Ok (w, j)) × (ok w ≡ false) × (y ≡ Unexpected (length j))

    failed : (i : List S) (y : Stop X) → name_read n i ≡ Err y → (word_read n i ≡ Err y) ⊎ Rejects i y
    failed i y h = by (and_then-err (word_read n i) after y h)
      where
        over : (z : List S × List S) → word_read n i ≡ Ok z → Tested z.0 z.1 (Err y) → (word_read n i ≡ Err y) ⊎ Rejects i y
        over z g (inl d) = let bad = d.1 in absurd (cc)
        over z g (inr d) = let bad = d.1 in inr (z.0, z.1, g, d.0, (let same : y ≡ Unexpected (length z.1) = cc in same))

        by : (word_read n i ≡ Err y) ⊎ ((z : List S × List S) × (word_read n i ≡ Ok z) × (after z.0 z.1 ≡ Err y)) → (word_read n i ≡ Err y) ⊎ Rejects i y
        by (inl d) = inl d
        by (inr d) = over d.0 d.1 (tested d.0.0 d.0.1 (Err y) d.2)

    reads_on : (m : Mode) (i w j : List S) → word_read m i ≡ Ok (w, j) → ok w ≡ true → name_read m i ≡ Ok (w, j)
    reads_on m i w j g h = rw (g, h) refl

    reads_long : (m : Mode) (w z : List S) → IsWord w → heads part z ≡ false → name_read m (w ++ (more_letters ++ z)) ≡ Ok (w ++ more_letters, z)
    reads_long m w z d f =
        reads_on m (w ++ (more_letters ++ z)) (w ++ more_letters) z
        (subst (λ l. word_read m l ≡ Ok (w ++ more_letters, z)) (append_assoc w more_letters z) (word-reads (w ++ more_letters) z (lengthened w d) f))
        (long (w ++ more_letters) (omega (arith, long-enough w)))

    name-stuck : (i : List S) (k : ℕ) → (word_read n i ≡ Err (Unexpected k)) ⊎ Rejects i (Unexpected k) → Stuck n name_read (λ w. Lacks part) (Passes start) Long i k
    name-stuck i k (inl h) = let s = word-starts i k h in record {
      front = [];
      back = i;
      cut = refl;
      left = s.0;
      again = λ m le j' g. rw (word-refuses j' (sym (SameHead-heads start i j' g) ∙ s.1)) refl;
      ending = (begin ∷ []) ++ more_letters;
      made = (begin ∷ []) ++ more_letters;
      wanted = omega (arith, long-enough (begin ∷ []));
      deep = 0;
      alive = λ m le deep z f. reads_long m (begin ∷ []) z short_word f;
      starts = λ z f. begins;
    }
    name-stuck i k (inr h) =
        let w = h.0 in let j = h.1 in
        let is = word-is i w j ((word-plain n).sound i w j h.2) in
        record {
          front = w;
          back = j;
          cut = is.1;
          left = (let e = h.4 in cc);
          again = λ m le j' g. rw (word-reads w j' is.0 (sym (SameHead-heads part j j' g) ∙ word-ends i w j h.2), h.3) refl;
          ending = more_letters;
          made = w ++ more_letters;
          wanted = omega (arith, long-enough w);
          deep = 0;
          alive = λ m le deep z f. reads_long m w z is.0 f;
          starts = λ z f. passes-front w (more_letters ++ z) is.0;
        }

    name-met : (i : List S) (x : X) (k : ℕ) → (word_read n i ≡ Err (Fault x k)) ⊎ Rejects i (Fault x k) → (Word {X = X} start part).meets i x k
    name-met i x k (inl h) = (word-plain n).met i x k h
    name-met i x k (inr h) = let bad = h.4 in absurd (cc)

    pub name-exact : ExactTo n (Only ok (Word start part)) name_read (λ w. Lacks part) (Passes start) Long
    name-exact = let e = word-plain n in record {
      sound = λ i w j h. let d = passed i w j h in (e.sound i w j d.0, d.1);
      complete = λ i w j h f. reads_on n i w j (e.complete i w j h.0 f) h.1;
      first = λ i w j h f. e.first i w j h.0 f;
      met = λ i x k h. name-met i x k (failed i (Fault x k) h);
      meets = λ i x k h. let d = e.meets i x k h in (rw d.0 refl, d.1, d.2);
      done = λ i w j h. let c = passed i w j h in let d = e.done i w j c.0 in record {
        front = d.front;
        cut = d.cut;
        again = λ m le j' g. reads_on m _ w j' (d.again m le j' g) c.1;
      };
      stuck = λ i k h. name-stuck i k (failed i (Unexpected k) h);
      sample = record {
        text = (begin ∷ []) ++ more_letters;
        made = (begin ∷ []) ++ more_letters;
        wanted = omega (arith, long-enough (begin ∷ []));
        deep = 0;
        alive = λ m le deep z f. reads_long m (begin ∷ []) z short_word f;
        starts = λ z f. begins;
      };
    }

    pub name-ends : (i w j : List S) → name_read n i ≡ Ok (w, j) → heads part j ≡ false
    name-ends i w j h = word-ends i w j (passed i w j h).0
