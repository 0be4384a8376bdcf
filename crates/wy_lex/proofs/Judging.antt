-- Checks whose outcome may say what follows, and other rules that the library of readers lacks.
use Rattle.std.proofs.Common.{◌≡◌, ℕ, ◌≤◌, Bool, true, false, cond, List, [], ◌∷◌, ◌++◌, length, Ok, Err, ◌⊎◌, inl, inr, refl, sym, ap, ◌∙◌, subst, arith}
use Rattle.std.specs.Bool.{⊤}
use Rattle.wy_reading.specs.declared.stop.Stop.{Stop}
use Rattle.wy_reading.specs.declared.stop.Stop.TheVariants.{Unexpected, Fault}
use Rattle.wy_reading.specs.Mode.{Mode, Looser}
use Rattle.wy_reading.specs.Rule.{Rule, heads, Pure, Or, Refused, Checked, Unless}
use Rattle.wy_reading.specs.Reader.{Reader, Outcome, and_then, ◌>>=◌, pure, refuse, one, checked, unless}
use Rattle.wy_reading.proofs.Exactness.{SameHead, Instead, same_mode, Sample, ExactTo, Passes, Lacks}
use Rattle.wy_reading.proofs.Outcomes.{and_then-ok, and_then-err, ok-parts, if-cases, SameHead-heads, SameHead-behind}

-- other tests of what begins
pub begins : {S X A : Type 0} {n : Mode} {R : Rule S X A} {q : Mode → Reader S X A} {F : A → List S → Type 0} {B B' : List S → Type 0} {P : A → Type 0}
    → ExactTo n R q F B P → ((i : List S) → B i → B' i) → ExactTo n R q F B' P
begins e b = record {
  sound = e.sound;
  complete = e.complete;
  first = λ i a j h x. b i (e.first i a j h x);
  met = e.met;
  meets = λ i x k h. let d = e.meets i x k h in (d.0, b i d.1, d.2);
  done = e.done;
  stuck = λ i k h. let d = e.stuck i k h in record {
    front = d.front;
    back = d.back;
    cut = d.cut;
    left = d.left;
    again = d.again;
    ending = d.ending;
    made = d.made;
    wanted = d.wanted;
    deep = d.deep;
    alive = d.alive;
    starts = λ z x. b _ (d.starts z x);
  };
  sample = let s = e.sample in record { text = s.text; made = s.made; wanted = s.wanted; deep = s.deep; alive = s.alive; starts = λ z x. b _ (s.starts z x) };
}

-- ---- nothing, where no symbol that passes the test follows

module _ {S X A : Type 0} (n : Mode) (test : S → Bool) (a : A) (F : A → List S → Type 0) (to : (i : List S) → F a i → Lacks test i) where
  abbrev clear_read : Mode → Reader S X A
  clear_read m = unless test (pure a)

  clear_on : (i : List S) → Lacks test i → (let r : Outcome S X A = unless test (pure a) i in r ≡ Ok (a, i))
  clear_on i h = rw h refl

  abbrev Cleared : List S → Outcome S X A → Type 0
  Cleared i r = ((heads test i ≡ true) × (let bad : Outcome S X A = refuse i in bad ≡ r)) ⊎ ((heads test i ≡ false) × (let good : Outcome S X A = Ok (a, i) in good ≡ r))

  cleared : (i : List S) (r : Outcome S X A) → unless test (pure a) i ≡ r → Cleared i r
  cleared i r h = if-cases (heads test i) _ _ _ h

  clear-sound : (i : List S) (b : A) (j : List S) → Cleared i (Ok (b, j)) → (heads test i ≡ false) × (b ≡ a) × (i ≡ j)
  clear-sound i b j (inl h) = let bad = h.1 in absurd (cc)
  clear-sound i b j (inr h) = let s = ok-parts a b i j h.1 in (h.0, sym s.0, s.1)

  clear-met : (i : List S) (x : X) (k : ℕ) → Cleared i (Err (Fault x k)) → ⊥
  clear-met i x k (inl h) = let bad = h.1 in absurd (cc)
  clear-met i x k (inr h) = let bad = h.1 in absurd (cc)

  clear-fails : (i : List S) (k : ℕ) → Cleared i (Err (Unexpected k)) → (k ≡ length i) × (heads test i ≡ true)
  clear-fails i k (inl h) = let same = h.1 in ((cc), h.0)
  clear-fails i k (inr h) = let bad = h.1 in absurd (cc)

  pub clear-exact : ExactTo n (Unless test (Pure a)) clear_read F (Lacks test) (λ b. ⊤)
  clear-exact = record {
    sound = λ i b j e. let h = clear-sound i b j (cleared i _ e) in (h.0, (h.1, h.2));
    complete = λ i b j h f. clear_on i h.0 ∙ (let e = h.1.0 in let e' = h.1.1 in cc);
    first = λ i b j h f. h.0;
    met = λ i x k e. absurd (clear-met i x k (cleared i _ e));
    meets = λ i x k h. absurd h.1;
    done = λ i b j e. let h = clear-sound i b j (cleared i _ e) in record {
      front = [];
      cut = h.2;
      again = λ m le j' g.
          let lacks : Lacks test j' = elim g [ inl s ↦ sym (SameHead-heads test j j' s) ∙ (ap (heads test) (sym h.2) ∙ h.0) | inr f ↦ to j' (subst (λ c. F c j') h.1 f) ] in
          clear_on j' lacks ∙ (let same = h.1 in cc);
    };
    stuck = λ i k e. let h = clear-fails i k (cleared i _ e) in record {
      front = [];
      back = i;
      cut = refl;
      left = h.0;
      again = λ m le j' s. rw (sym (SameHead-heads test i j' s) ∙ h.1) refl;
      ending = [];
      made = a;
      wanted = tt;
      deep = 0;
      alive = λ m le deep z f. clear_on z (to z f);
      starts = λ z f. to z f;
    };
    sample = record { text = []; made = a; wanted = tt; deep = 0; alive = λ m le deep z f. clear_on z (to z f); starts = λ z f. to z f };
  }

-- ---- readers that refuse a text at its first symbol alone

abbrev pub RefusesFirst : {S X A : Type 0} → Mode → (Mode → Reader S X A) → Type 0
RefusesFirst {S} n q = (i : List S) (k : ℕ) → q n i ≡ Err (Unexpected k)
    → (k ≡ length i) × ((m : Mode) → Looser n m → (j : List S) → SameHead i j → q m j ≡ Err (Unexpected (length j)))

module _ {S X A : Type 0} (n : Mode) (test : S → Bool) (f : Mode → S → Reader S X A) (never : (s : S) (i : List S) (k : ℕ) → f n s i ≡ Err (Unexpected k) → ⊥) where
  refused_one : (m : Mode) (j : List S) → heads test j ≡ false → (one test >>= f m) j ≡ Err (Unexpected (length j))
  refused_one m [] h = refl
  refused_one m (s ∷ j) h = rw h refl

  abbrev Tested : S → List S → Outcome S X A → Type 0
  Tested s i r = ((test s ≡ true) × (f n s i ≡ r)) ⊎ ((test s ≡ false) × (let bad : Outcome S X A = refuse (s ∷ i) in bad ≡ r))

  tested : (b : Bool) (s : S) (i : List S) (r : Outcome S X A) → test s ≡ b → and_then (cond b (Ok (s, i)) (refuse (s ∷ i))) (f n) ≡ r → Tested s i r
  tested true s i r h e = inl (h, e)
  tested false s i r h e = inr (h, e)

  pub first_only : RefusesFirst n (λ m. one test >>= f m)
  first_only [] k e = ((cc), λ m le j s. refused_one m j (sym (SameHead-heads test [] j s)))
  first_only (s ∷ i) k e = by (tested (test s) s i (Err (Unexpected k)) refl e)
    where
      by : Tested s i (Err (Unexpected k)) → (k ≡ length (s ∷ i)) × ((m : Mode) → Looser n m → (j : List S) → SameHead (s ∷ i) j → (one test >>= f m) j ≡ Err (Unexpected (length j)))
      by (inl d) = absurd (never s i k d.1)
      by (inr d) = let same = d.1 in ((cc), λ m le j g. refused_one m j (sym (SameHead-heads test (s ∷ i) j g) ∙ d.0))

-- ---- a check that is made in every mode or in strict ones alone, of a reader that refuses at the first symbol alone

module _ {S X A : Type 0} (n : Mode) (R : Rule S X A) (q : Mode → Reader S X A) (F : A → List S → Type 0) (B : List S → Type 0) (check : Mode → A → Bool) (x : X)
    (e : ExactTo n R q F B (λ a. ⊤)) (keeps : (m : Mode) → Looser n m → (a : A) → check n a ≡ true → check m a ≡ true)
    (some : Sample n q F B (λ a. ⊤)) (good : (m : Mode) → Looser n m → check m some.made ≡ true) (refuses : RefusesFirst n q)
    (ends : (i : List S) (a : A) (j : List S) → R.reads i a j → check n a ≡ false → F a j) (F' : A → List S → Type 0) (frees : (a : A) → check n a ≡ true → (l : List S) → F' a l → F a l) where
  freed : (z : List S) → F' some.made z → F some.made z
  freed z f = frees some.made (good n (same_mode n)) z f

  abbrev judge_read : Mode → Reader S X A
  judge_read m = checked (check m) x (q m)

  abbrev after : Mode → ℕ → A → Reader S X A
  after m k a j = cond (check m a) (Ok (a, j)) (Err (Fault x k))

  abbrev Judged : A → List S → ℕ → Outcome S X A → Type 0
  Judged a j k r = ((check n a ≡ true) × (let well : Outcome S X A = Ok (a, j) in well ≡ r)) ⊎ ((check n a ≡ false) × (let bad : Outcome S X A = Err (Fault x k) in bad ≡ r))

  judged : (a : A) (j : List S) (k : ℕ) (r : Outcome S X A) → after n k a j ≡ r → Judged a j k r
  judged a j k r h = if-cases (check n a) _ _ _ h

  passed : (i : List S) (a : A) (j : List S) → judge_read n i ≡ Ok (a, j) → (q n i ≡ Ok (a, j)) × (check n a ≡ true)
  passed i a j h = let y = and_then-ok (q n i) (after n (length i)) (a, j) h in by y.0.0 y.0.1 y.1 (judged y.0.0 y.0.1 (length i) (Ok (a, j)) y.2)
    where
      by : (b : A) (k : List S) → q n i ≡ Ok (b, k) → Judged b k (length i) (Ok (a, j)) → (q n i ≡ Ok (a, j)) × (check n a ≡ true)
      by b k g (inl d) = let s = ok-parts b a k j d.1 in (g ∙ d.1, ap (check n) (sym s.0) ∙ d.0)
      by b k g (inr d) = let bad = d.1 in absurd (cc)

  abbrev Rejects : List S → Stop X → Type 0
  Rejects i y = (a : A) × (j : List S) × (q n i ≡ Ok (a, j)) × (check n a ≡ false) × (y ≡ Fault x (length i))

  failed : (i : List S) (y : Stop X) → judge_read n i ≡ Err y → (q n i ≡ Err y) ⊎ Rejects i y
  failed i y h = by (and_then-err (q n i) (after n (length i)) y h)
    where
      over : (z : A × List S) → q n i ≡ Ok z → Judged z.0 z.1 (length i) (Err y) → (q n i ≡ Err y) ⊎ Rejects i y
      over z g (inl d) = let bad = d.1 in absurd (cc)
      over z g (inr d) = let bad = d.1 in inr (z.0, z.1, g, d.0, (let same : y ≡ Fault x (length i) = cc in same))

      by : (q n i ≡ Err y) ⊎ ((z : A × List S) × (q n i ≡ Ok z) × (after n (length i) z.0 z.1 ≡ Err y)) → (q n i ≡ Err y) ⊎ Rejects i y
      by (inl d) = inl d
      by (inr d) = over d.0 d.1 (judged d.0.0 d.0.1 (length i) (Err y) d.2)

  reads_on : (m : Mode) (i : List S) (a : A) (j : List S) → q m i ≡ Ok (a, j) → check m a ≡ true → judge_read m i ≡ Ok (a, j)
  reads_on m i a j g h = rw (g, h) refl

  refused : (i : List S) (k : ℕ) → (q n i ≡ Err (Unexpected k)) ⊎ Rejects i (Unexpected k) → q n i ≡ Err (Unexpected k)
  refused i k (inl h) = h
  refused i k (inr h) = let bad = h.4 in absurd (cc)

  pub judged-first : RefusesFirst n judge_read
  judged-first i k h = let d = refuses i k (refused i k (failed i (Unexpected k) h)) in (d.0, λ m le j s. rw (d.1 m le j s) refl)

  abbrev Met : List S → X → ℕ → Type 0
  Met i y k = R.meets i y k ⊎ ((a : A) × (j : List S) × R.reads i a j × (Unit {0}) × (check n a ≡ false) × (y ≡ x) × (k ≡ length i))

  judged-met : (i : List S) (y : X) (k : ℕ) → (q n i ≡ Err (Fault y k)) ⊎ Rejects i (Fault y k) → Met i y k
  judged-met i y k (inl h) = inl (e.met i y k h)
  judged-met i y k (inr h) = let same = h.4 in inr (h.0, h.1, e.sound i h.0 h.1 h.2, tt, h.3, (cc), (cc))

  judged-meets : (i : List S) (y : X) (k : ℕ) → Met i y k → (judge_read n i ≡ Err (Fault y k)) × B i × (k ≤ length i)
  judged-meets i y k (inl h) = let d = e.meets i y k h in (rw d.0 refl, d.1, d.2)
  judged-meets i y k (inr h) = let f = ends i h.0 h.1 h.2 h.4 in (rw (e.complete i h.0 h.1 h.2 f, h.4, h.5, h.6) refl, e.first i h.0 h.1 h.2 f, omega (arith, h.6))

  pub judged-sample : Sample n judge_read F' B (λ a. ⊤)
  judged-sample = record {
    text = some.text;
    made = some.made;
    wanted = tt;
    deep = some.deep;
    alive = λ m le deep z f. reads_on m _ some.made z (some.alive m le deep z (freed z f)) (good m le);
    starts = λ z f. some.starts z (freed z f);
  }

  pub judged-exact : ExactTo n (Checked (λ i. Unit {0}) (check n) x R) judge_read F' B (λ a. ⊤)
  judged-exact = record {
    sound = λ i a j h. let d = passed i a j h in (e.sound i a j d.0, d.1);
    complete = λ i a j h f. reads_on n i a j (e.complete i a j h.0 (frees a h.1 j f)) h.1;
    first = λ i a j h f. e.first i a j h.0 (frees a h.1 j f);
    met = λ i y k h. judged-met i y k (failed i (Fault y k) h);
    meets = judged-meets;
    done = λ i a j h. let c = passed i a j h in let d = e.done i a j c.0 in record {
      front = d.front;
      cut = d.cut;
      again = λ m le j' g. reads_on m _ a j' (d.again m le j' (elim g [ inl t ↦ inl t | inr f ↦ inr (frees a c.1 j' f) ])) (keeps m le a c.1);
    };
    stuck = λ i k h. let d = judged-first i k h in record {
      front = [];
      back = i;
      cut = refl;
      left = d.0;
      again = λ m le j' s. d.1 m le j' s;
      ending = some.text;
      made = some.made;
      wanted = tt;
      deep = some.deep;
      alive = λ m le deep z f. reads_on m _ some.made z (some.alive m le deep z (freed z f)) (good m le);
      starts = λ z f. some.starts z (freed z f);
    };
    sample = judged-sample;
  }

-- ---- a symbol that is refused, before another rule; what may follow depends on what is read

module _ {S X A : Type 0} (n : Mode) (test : S → Bool) (x : X) (R : Rule S X A) (q : Mode → Reader S X A) (p : Mode → Reader S X A) (F : A → List S → Type 0) (B : List S → Type 0)
    (e : ExactTo n R q F B (λ a. ⊤)) (there : (i : List S) → B i → heads test i ≡ false)
    (falls : (m : Mode) (i : List S) → heads test i ≡ false → p m i ≡ q m i) (refuses : (i : List S) → heads test i ≡ true → p n i ≡ Err (Fault x (length i))) where
  abbrev Chosen : List S → Outcome S X A → Type 0
  Chosen i r = ((heads test i ≡ true) × (let bad : Outcome S X A = Err (Fault x (length i)) in bad ≡ r)) ⊎ ((heads test i ≡ false) × (q n i ≡ r))

  choose : (b : Bool) (i : List S) (r : Outcome S X A) → heads test i ≡ b → p n i ≡ r → Chosen i r
  choose true i r h g = inl (h, sym (refuses i h) ∙ g)
  choose false i r h g = inr (h, sym (falls n i h) ∙ g)

  chosen : (i : List S) (r : Outcome S X A) → p n i ≡ r → Chosen i r
  chosen i r g = choose (heads test i) i r refl g

  barrier-sound : (i : List S) (a : A) (j : List S) → Chosen i (Ok (a, j)) → (q n i ≡ Ok (a, j)) × (heads test i ≡ false)
  barrier-sound i a j (inl h) = let bad = h.1 in absurd (cc)
  barrier-sound i a j (inr h) = (h.1, h.0)

  barrier-fails : (i : List S) (k : ℕ) → Chosen i (Err (Unexpected k)) → (q n i ≡ Err (Unexpected k)) × (heads test i ≡ false)
  barrier-fails i k (inl h) = let bad = h.1 in absurd (cc)
  barrier-fails i k (inr h) = (h.1, h.0)

  abbrev Held : List S → X → ℕ → Type 0
  Held i y k = ((heads test i ≡ true) × (y ≡ x) × (k ≡ length i)) ⊎ R.meets i y k

  barrier-met : (i : List S) (y : X) (k : ℕ) → Chosen i (Err (Fault y k)) → Held i y k
  barrier-met i y k (inl h) = let same = h.1 in inl (h.0, (cc), (cc))
  barrier-met i y k (inr h) = inr (e.met i y k h.1)

  abbrev Starts : List S → Type 0
  Starts i = Passes test i ⊎ B i

  barrier-meets : (i : List S) (y : X) (k : ℕ) → Held i y k → (p n i ≡ Err (Fault y k)) × Starts i × (k ≤ length i)
  barrier-meets i y k (inl h) = (rw (refuses i h.0, h.1, h.2) refl, inl h.0, omega (arith, h.2))
  barrier-meets i y k (inr h) = let d = e.meets i y k h in (falls n i (there i d.1) ∙ d.0, inr d.1, d.2)

  barrier-reads : (i : List S) (a : A) (j : List S) → ⊥ ⊎ R.reads i a j → R.reads i a j
  barrier-reads i a j (inl h) = absurd h
  barrier-reads i a j (inr h) = h

  still : (front j j' : List S) (a : A) → ((l : List S) → Instead (F a) j l → q n (front ++ l) ≡ Ok (a, l)) → heads test (front ++ j) ≡ false → Instead (F a) j j' → heads test (front ++ j') ≡ false
  still front j j' a again h (inl s) = sym (SameHead-heads test _ _ (SameHead-behind front j j' s)) ∙ h
  still front j j' a again h (inr f) = there _ (e.first _ a j' (e.sound _ a j' (again j' (inr f))) f)

  pub barrier-exact : ExactTo n (Or (Refused test x) R) p F Starts (λ a. ⊤)
  barrier-exact = record {
    sound = λ i a j h. inr (e.sound i a j (barrier-sound i a j (chosen i (Ok (a, j)) h)).0);
    complete = λ i a j h f. let r = barrier-reads i a j h in falls n i (there i (e.first i a j r f)) ∙ e.complete i a j r f;
    first = λ i a j h f. inr (e.first i a j (barrier-reads i a j h) f);
    met = λ i y k h. barrier-met i y k (chosen i (Err (Fault y k)) h);
    meets = barrier-meets;
    done = λ i a j h. let c = barrier-sound i a j (chosen i (Ok (a, j)) h) in let d = e.done i a j c.0 in record {
      front = d.front;
      cut = d.cut;
      again = λ m le j' g. falls m _ (still d.front j j' a (λ l. d.again n (same_mode n) l) (ap (λ l. heads test l) (sym d.cut) ∙ c.1) g) ∙ d.again m le j' g;
    };
    stuck = λ i k h. let c = barrier-fails i k (chosen i (Err (Unexpected k)) h) in let d = e.stuck i k c.0 in record {
      front = d.front;
      back = d.back;
      cut = d.cut;
      left = d.left;
      again = λ m le j' s. falls m _ (sym (SameHead-heads test _ _ (SameHead-behind d.front d.back j' s)) ∙ (ap (λ l. heads test l) (sym d.cut) ∙ c.1)) ∙ d.again m le j' s;
      ending = d.ending;
      made = d.made;
      wanted = tt;
      deep = d.deep;
      alive = λ m le deep z f. falls m _ (there _ (d.starts z f)) ∙ d.alive m le deep z f;
      starts = λ z f. inr (d.starts z f);
    };
    sample = let s = e.sample in record {
      text = s.text;
      made = s.made;
      wanted = tt;
      deep = s.deep;
      alive = λ m le deep z f. falls m _ (there _ (s.starts z f)) ∙ s.alive m le deep z f;
      starts = λ z f. inr (s.starts z f);
    };
  }
