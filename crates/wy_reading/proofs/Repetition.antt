-- Any number of turns: `Loop`.
use Rattle.std.proofs.Common.{◌≡◌, ℕ, zero, suc, ◌<◌, ◌≤◌, Bool, true, false, true≢false, List, [], ◌∷◌, ◌++◌, length, Ok, Err, ◌⊎◌, inl, inr, refl, sym, ap, ◌∙◌, subst, arith, append_assoc, length-append}
use Rattle.std.specs.Bool.{⊤}
use Rattle.wy_reading.specs.declared.stop.Stop.{Stop}
use Rattle.wy_reading.specs.declared.stop.Stop.TheVariants.{Unexpected, Fault}
use Rattle.wy_reading.specs.Mode.{Mode, Looser}
use Rattle.wy_reading.specs.Rule.{Rule, heads, Turns, Loop}
use Rattle.wy_reading.specs.Reader.{Reader, Outcome, and_then, loop, while}
use Rattle.wy_reading.specs.Rule.Turns.{stop, more}
use Rattle.wy_reading.proofs.Exactness.{SameHead, Instead, same_mode, Done, Stuck, ExactTo, Exact}
use Rattle.wy_reading.proofs.Outcomes.{and_then-ok, and_then-err, ok-parts, if-cases, SameHead-heads, SameHead-behind}

module _ {S X A : Type 0} (n : Mode) (test : S → Bool) (T : A → Rule S X A) (turn : Mode → A → Reader S X A) (F G B : A → List S → Type 0) (P : A → Type 0)
    (part : (a : A) → ExactTo n (T a) (λ m. turn m a) G (B a) P)
    (begin : (a : A) (i : List S) → B a i → heads test i ≡ true)
    (halts : (a : A) (i : List S) → F a i → heads test i ≡ false)
    (weaken : (a : A) (i : List S) → F a i → G a i)
    (goes_on : (a : A) (i : List S) → B a i → G a i)
    (some : (a : A) → (z : List S) × F a z) where
  positive : (i : List S) (f : ℕ) → heads test i ≡ true → length i ≤ f → (g : ℕ) × (f ≡ suc g)
  positive [] f h le = absurd (true≢false (sym h))
  positive (s ∷ i) zero h le = absurd (omega arith)
  positive (s ∷ i) (suc g) h le = (g, refl)

  loop-turn : (m : Mode) (f g : ℕ) (a : A) (i : List S) (b : A) (j : List S) → f ≡ suc g → heads test i ≡ true → turn m a i ≡ Ok (b, j) → loop test (turn m) f a i ≡ loop test (turn m) g b j
  loop-turn m f g a i b j ef et e = rw (ef, et, e) refl

  loop-fails : (m : Mode) (f g : ℕ) (a : A) (i : List S) (x : Stop X) → f ≡ suc g → heads test i ≡ true → turn m a i ≡ Err x → loop test (turn m) f a i ≡ Err x
  loop-fails m f g a i x ef et e = rw (ef, et, e) refl

  loop-halts : (m : Mode) (f : ℕ) (a : A) (i : List S) → heads test i ≡ false → loop test (turn m) f a i ≡ Ok (a, i)
  loop-halts m zero a i h = refl
  loop-halts m (suc f) a i h = rw h refl

  -- a turn takes a symbol
  taken : (a b : A) (front j : List S) → ((l : List S) → Instead (G b) j l → turn n a (front ++ l) ≡ Ok (b, l)) → 1 ≤ length front
  taken a b [] j again =
      let z = (some b).0 in
      let f = (some b).1 in
      let g = weaken b z f in
      absurd (true≢false (sym (begin a z ((part a).first z b z ((part a).sound z b z (again z (inr g))) g)) ∙ halts b z f))
  taken a b (s ∷ front) j again = omega arith

  -- in any looser mode too
  shorter : (a b : A) (i j x : List S) (d : Done n (λ m. turn m a) G i b j) → length x < length (d.front ++ x)
  shorter a b i j x d = omega (arith, length-append d.front x, taken a b d.front j (λ l. d.again n (same_mode n) l))

  shorter-here : (a b : A) (i j : List S) → turn n a i ≡ Ok (b, j) → length j < length i
  shorter-here a b i j e =
      let d = (part a).done i b j e in
      omega (arith, ap length d.cut, shorter a b i j j d)

  abbrev Tested : ℕ → A → List S → Outcome S X A → Type 0
  Tested f a i r = ((heads test i ≡ true) × (and_then (turn n a i) (loop test (turn n) f) ≡ r)) ⊎ ((heads test i ≡ false) × (let end : Outcome S X A = Ok (a, i) in end ≡ r))

  tested : (f : ℕ) (a : A) (i : List S) (r : Outcome S X A) → loop test (turn n) (suc f) a i ≡ r → Tested f a i r
  tested f a i r e = if-cases (heads test i) _ _ _ e

  loop-sound : (f : ℕ) (a : A) (i : List S) (t : A) (k : List S) → loop test (turn n) f a i ≡ Ok (t, k) → Turns T a i t k
  loop-sound zero a i t k e = let h = ok-parts a t i k e in stop (sym h.0) h.1
  loop-sound (suc f) a i t k e = by (λ b j. loop-sound f b j t k) (tested f a i (Ok (t, k)) e)
    where
      by : ((b : A) (j : List S) → loop test (turn n) f b j ≡ Ok (t, k) → Turns T b j t k) → Tested f a i (Ok (t, k)) → Turns T a i t k
      by ih (inl d) = let y = and_then-ok (turn n a i) (loop test (turn n) f) (t, k) d.1 in more y.0.0 y.0.1 ((part a).sound i y.0.0 y.0.1 y.1) (ih y.0.0 y.0.1 y.2)
      by ih (inr d) = let h = ok-parts a t i k d.1 in stop (sym h.0) h.1

  abbrev Met : A → List S → X → ℕ → Type 0
  Met a i x k = (b : A) × (j : List S) × Turns T a i b j × (T b).meets j x k

  loop-met : (f : ℕ) (a : A) (i : List S) (x : X) (k : ℕ) → loop test (turn n) f a i ≡ Err (Fault x k) → Met a i x k
  loop-met zero a i x k e = absurd (cc)
  loop-met (suc f) a i x k e = by (λ b j. loop-met f b j x k) (tested f a i (Err (Fault x k)) e)
    where
      after : ((b : A) (j : List S) → loop test (turn n) f b j ≡ Err (Fault x k) → Met b j x k)
          → (turn n a i ≡ Err (Fault x k)) ⊎ ((y : A × List S) × (turn n a i ≡ Ok y) × (loop test (turn n) f y.0 y.1 ≡ Err (Fault x k))) → Met a i x k
      after ih (inl h) = (a, i, stop refl refl, (part a).met i x k h)
      after ih (inr y) = let d = ih y.0.0 y.0.1 y.2 in (d.0, d.1, more y.0.0 y.0.1 ((part a).sound i y.0.0 y.0.1 y.1) d.2, d.3)

      by : ((b : A) (j : List S) → loop test (turn n) f b j ≡ Err (Fault x k) → Met b j x k) → Tested f a i (Err (Fault x k)) → Met a i x k
      by ih (inl d) = after ih (and_then-err (turn n a i) (loop test (turn n) f) (Fault x k) d.1)
      by ih (inr d) = let bad = d.1 in absurd (cc)

  abbrev Begins : A → List S → Type 0
  Begins a i = F a i ⊎ B a i

  follow : {a : A} {i : List S} {t : A} {k : List S} → Turns T a i t k → G t k → G a i
  follow {a = a} {i = i} {t = t} {k = k} (stop et ek) g = subst (λ l. G a l) (sym ek) (subst (λ c. G c k) et g)
  follow {a = a} {i = i} (more b j r rest) g = goes_on a i ((part a).first i b j r (follow rest g))

  loop-first : {a : A} {i : List S} {t : A} {k : List S} → Turns T a i t k → F t k → Begins a i
  loop-first {a = a} {i = i} {t = t} {k = k} (stop et ek) f = inl (subst (λ l. F a l) (sym ek) (subst (λ c. F c k) et f))
  loop-first {a = a} {i = i} {t = t} {k = k} (more b j r rest) f = inr ((part a).first i b j r (follow rest (weaken t k f)))

  loop-complete : {a : A} {i : List S} {t : A} {k : List S} → Turns T a i t k → F t k → (f : ℕ) → length i ≤ f → loop test (turn n) f a i ≡ Ok (t, k)
  loop-complete {a = a} {i = i} {t = t} {k = k} (stop et ek) x f le =
      let here = loop-halts n f a i (ap (λ l. heads test l) ek ∙ halts t k x) in cc
  loop-complete {a = a} {i = i} {t = t} {k = k} (more b j r rest) x f le =
      let goes = follow rest (weaken t k x) in
      let e = (part a).complete i b j r goes in
      let more_left = begin a i ((part a).first i b j r goes) in
      let g = positive i f more_left le in
      loop-turn n f g.0 a i b j g.1 more_left e ∙ loop-complete rest x g.0 (omega (arith, g.1, shorter-here a b i j e))

  -- where a later turn fails, the loop fails so
  loop-breaks : {a : A} {i : List S} {t : A} {k : List S} → Turns T a i t k → B t k → (y : Stop X) → turn n t k ≡ Err y → (f : ℕ) → length i ≤ f → (loop test (turn n) f a i ≡ Err y) × B a i × (length k ≤ length i)
  loop-breaks {a = a} {i = i} {t = t} {k = k} (stop et ek) x y e f le =
      let here : turn n a i ≡ Err y = subst (λ l. turn n a l ≡ Err y) (sym ek) (subst (λ u. turn n u k ≡ Err y) et e) in
      let begun : B a i = subst (λ l. B a l) (sym ek) (subst (λ c. B c k) et x) in
      let g = positive i f (begin a i begun) le in
      (loop-fails n f g.0 a i y g.1 (begin a i begun) here, begun, omega (arith, ap length ek))
  loop-breaks {a = a} {i = i} {t = t} {k = k} (more b j r rest) x y e f le =
      let goes = follow rest (goes_on t k x) in
      let e' = (part a).complete i b j r goes in
      let begun = (part a).first i b j r goes in
      let g = positive i f (begin a i begun) le in
      let short = shorter-here a b i j e' in
      let later = loop-breaks rest x y e g.0 (omega (arith, g.1, short)) in
      (loop-turn n f g.0 a i b j g.1 (begin a i begun) e' ∙ later.0, begun, omega (arith, short, later.2))

  loop-meets : (a : A) (i : List S) (x : X) (k : ℕ) → Met a i x k → (loop test (turn n) (length i) a i ≡ Err (Fault x k)) × Begins a i × (k ≤ length i)
  loop-meets a i x k h =
      let d = (part h.0).meets h.1 x k h.3 in
      let b = loop-breaks h.2 d.1 (Fault x k) d.0 (length i) (omega arith) in
      (b.0, inr b.1, omega (arith, d.2, b.2))

  record LoopDone (a : A) (i : List S) (t : A) (k : List S) : Type 0 where
    pub front : List S
    pub cut : i ≡ front ++ k
    pub again : (m : Mode) → Looser n m → (j' : List S) → Instead (F t) k j' → (f : ℕ) → length (front ++ j') ≤ f → loop test (turn m) f a (front ++ j') ≡ Ok (t, j')
    pub joins : (j' : List S) → F t j' → G a (front ++ j')

  record LoopStuck (a : A) (i : List S) (k : ℕ) : Type 0 where
    pub front : List S
    pub back : List S
    pub cut : i ≡ front ++ back
    pub left : k ≡ length back
    pub again : (m : Mode) → Looser n m → (j' : List S) → SameHead back j' → (f : ℕ) → length (front ++ j') ≤ f → loop test (turn m) f a (front ++ j') ≡ Err (Unexpected (length j'))
    pub ending : List S
    pub made : A
    pub wanted : P made
    pub deep : ℕ
    pub alive : (m : Mode) → Looser n m → deep ≤ m.depth → (z : List S) → F made z → (f : ℕ) → length (front ++ (ending ++ z)) ≤ f → loop test (turn m) f a (front ++ (ending ++ z)) ≡ Ok (made, z)
    pub starts : (z : List S) → F made z → B a (front ++ (ending ++ z))

  ended : (a : A) (i : List S) (t : A) (k : List S) → heads test i ≡ false → (let r : Outcome S X A = Ok (a, i) in r ≡ Ok (t, k)) → LoopDone a i t k
  ended a i t k none e = let h = ok-parts a t i k e in record {
    front = [];
    cut = h.1;
    again = λ m le j' g f lf.
        let here = loop-halts m f a j' (over j' (subst (λ l. Instead (F t) l j') (sym h.1) g)) in
        let same = h.0 in cc;
    joins = λ j' x. weaken a j' (subst (λ c. F c j') (sym h.0) x);
  }
    where
      over : (j' : List S) → Instead (F t) i j' → heads test j' ≡ false
      over j' (inl s) = sym (SameHead-heads test i j' s) ∙ none
      over j' (inr x) = halts t j' x

  seam : (a b t : A) (front k j' : List S) → Instead (F t) k j' → (F t j' → G b (front ++ j')) → Instead (G b) (front ++ k) (front ++ j')
  seam a b t front k j' (inl s) joins = inl (SameHead-behind front k j' s)
  seam a b t front k j' (inr x) joins = inr (joins x)

  -- where a turn is read again, the first symbol still asks for it
  turns-again : (a b : A) (front j j' : List S) → ((l : List S) → Instead (G b) j l → turn n a (front ++ l) ≡ Ok (b, l)) → heads test (front ++ j) ≡ true → Instead (G b) j j' → heads test (front ++ j') ≡ true
  turns-again a b front j j' again h (inl s) = sym (SameHead-heads test _ _ (SameHead-behind front j j' s)) ∙ h
  turns-again a b front j j' again h (inr x) = begin a _ ((part a).first _ b j' ((part a).sound _ b j' (again j' (inr x))) x)

  one-more : (a : A) (i : List S) (b : A) (j : List S) (t : A) (k : List S) → heads test i ≡ true → Done n (λ m. turn m a) G i b j → LoopDone b j t k → LoopDone a i t k
  one-more a i b j t k yet d d' = record {
    front = d.front ++ d'.front;
    cut = d.cut ∙ (ap (λ l. d.front ++ l) d'.cut ∙ sym (append_assoc d.front d'.front k));
    again = λ m le j' g f lf.
        let x = d'.front ++ j' in
        let goes : Instead (G b) j x = subst (λ l. Instead (G b) l x) (sym d'.cut) (seam a b t d'.front k j' g (d'.joins j')) in
        let e = d.again m le x goes in
        let still = turns-again a b d.front j x (λ l. d.again n (same_mode n) l) (ap (λ l. heads test l) (sym d.cut) ∙ yet) goes in
        let long : length (d.front ++ x) ≤ f = subst (λ (l : List S). length l ≤ f) (append_assoc d.front d'.front j') lf in
        let h = positive (d.front ++ x) f still long in
        rw (append_assoc d.front d'.front j') (loop-turn m f h.0 a (d.front ++ x) b x h.1 still e ∙ d'.again m le j' g h.0 (omega (arith, shorter a b i j x d, h.1)));
    joins = λ j' f.
        let x = d'.front ++ j' in
        let g = d'.joins j' f in
        rw (append_assoc d.front d'.front j') (goes_on a (d.front ++ x) ((part a).first (d.front ++ x) b x ((part a).sound (d.front ++ x) b x (d.again n (same_mode n) x (inr g))) g));
  }

  loop-done : (f : ℕ) (a : A) (i : List S) (t : A) (k : List S) → length i ≤ f → loop test (turn n) f a i ≡ Ok (t, k) → LoopDone a i t k
  loop-done zero a [] t k le e = ended a [] t k refl e
  loop-done zero a (s ∷ i) t k le e = absurd (omega arith)
  loop-done (suc f) a i t k le e = by (λ b j. loop-done f b j t k) (tested f a i (Ok (t, k)) e)
    where
      by : ((b : A) (j : List S) → length j ≤ f → loop test (turn n) f b j ≡ Ok (t, k) → LoopDone b j t k) → Tested f a i (Ok (t, k)) → LoopDone a i t k
      by ih (inl d) =
          let y = and_then-ok (turn n a i) (loop test (turn n) f) (t, k) d.1 in
          one-more a i y.0.0 y.0.1 t k d.0 ((part a).done i y.0.0 y.0.1 y.1) (ih y.0.0 y.0.1 (omega (arith, shorter-here a y.0.0 i y.0.1 y.1)) y.2)
      by ih (inr d) = ended a i t k d.0 d.1

  stuck-here : (a : A) (i : List S) (k : ℕ) → heads test i ≡ true → Stuck n (λ m. turn m a) G (B a) P i k → LoopStuck a i k
  stuck-here a i k yet d = record {
    front = d.front;
    back = d.back;
    cut = d.cut;
    left = d.left;
    again = λ m le j' s f lf.
        let still = sym (SameHead-heads test _ _ (SameHead-behind d.front d.back j' s)) ∙ (ap (λ l. heads test l) (sym d.cut) ∙ yet) in
        let h = positive (d.front ++ j') f still lf in
        loop-fails m f h.0 a (d.front ++ j') (Unexpected (length j')) h.1 still (d.again m le j' s);
    ending = d.ending;
    made = d.made;
    wanted = d.wanted;
    deep = d.deep;
    alive = λ m le deep z x f lf.
        let e = d.alive m le deep z (weaken d.made z x) in
        let still = begin a _ (d.starts z (weaken d.made z x)) in
        let h = positive (d.front ++ (d.ending ++ z)) f still lf in
        loop-turn m f h.0 a (d.front ++ (d.ending ++ z)) d.made z h.1 still e ∙ loop-halts m h.0 d.made z (halts d.made z x);
    starts = λ z x. d.starts z (weaken d.made z x);
  }

  stuck-later : (a : A) (i : List S) (b : A) (j : List S) (k : ℕ) → heads test i ≡ true → Done n (λ m. turn m a) G i b j → LoopStuck b j k → LoopStuck a i k
  stuck-later a i b j k yet d d' = record {
    front = d.front ++ d'.front;
    back = d'.back;
    cut = d.cut ∙ (ap (λ l. d.front ++ l) d'.cut ∙ sym (append_assoc d.front d'.front d'.back));
    left = d'.left;
    again = λ m le j' s f lf.
        let x = d'.front ++ j' in
        let goes : Instead (G b) j x = inl (subst (λ l. SameHead l x) (sym d'.cut) (SameHead-behind d'.front d'.back j' s)) in
        let e = d.again m le x goes in
        let still = turns-again a b d.front j x (λ l. d.again n (same_mode n) l) (ap (λ l. heads test l) (sym d.cut) ∙ yet) goes in
        let long : length (d.front ++ x) ≤ f = subst (λ (l : List S). length l ≤ f) (append_assoc d.front d'.front j') lf in
        let h = positive (d.front ++ x) f still long in
        rw (append_assoc d.front d'.front j') (loop-turn m f h.0 a (d.front ++ x) b x h.1 still e ∙ d'.again m le j' s h.0 (omega (arith, shorter a b i j x d, h.1)));
    ending = d'.ending;
    made = d'.made;
    wanted = d'.wanted;
    deep = d'.deep;
    alive = λ m le deep z v f lf.
        let x = d'.front ++ (d'.ending ++ z) in
        let goes : Instead (G b) j x = inr (goes_on b x (d'.starts z v)) in
        let e = d.again m le x goes in
        let still = turns-again a b d.front j x (λ l. d.again n (same_mode n) l) (ap (λ l. heads test l) (sym d.cut) ∙ yet) goes in
        let long : length (d.front ++ x) ≤ f = subst (λ (l : List S). length l ≤ f) (append_assoc d.front d'.front (d'.ending ++ z)) lf in
        let h = positive (d.front ++ x) f still long in
        rw (append_assoc d.front d'.front (d'.ending ++ z)) (loop-turn m f h.0 a (d.front ++ x) b x h.1 still e ∙ d'.alive m le deep z v h.0 (omega (arith, shorter a b i j x d, h.1)));
    starts = λ z v.
        let x = d'.front ++ (d'.ending ++ z) in
        let follows = goes_on b x (d'.starts z v) in
        rw (append_assoc d.front d'.front (d'.ending ++ z)) ((part a).first (d.front ++ x) b x ((part a).sound (d.front ++ x) b x (d.again n (same_mode n) x (inr follows))) follows);
  }

  loop-stuck : (f : ℕ) (a : A) (i : List S) (k : ℕ) → length i ≤ f → loop test (turn n) f a i ≡ Err (Unexpected k) → LoopStuck a i k
  loop-stuck zero a i k le e = absurd (cc)
  loop-stuck (suc f) a i k le e = by (λ b j. loop-stuck f b j k) (tested f a i (Err (Unexpected k)) e)
    where
      after : ((b : A) (j : List S) → length j ≤ f → loop test (turn n) f b j ≡ Err (Unexpected k) → LoopStuck b j k) → heads test i ≡ true
          → (turn n a i ≡ Err (Unexpected k)) ⊎ ((y : A × List S) × (turn n a i ≡ Ok y) × (loop test (turn n) f y.0 y.1 ≡ Err (Unexpected k))) → LoopStuck a i k
      after ih yet (inl h) = stuck-here a i k yet ((part a).stuck i k h)
      after ih yet (inr y) = stuck-later a i y.0.0 y.0.1 k yet ((part a).done i y.0.0 y.0.1 y.1) (ih y.0.0 y.0.1 (omega (arith, shorter-here a y.0.0 i y.0.1 y.1)) y.2)

      by : ((b : A) (j : List S) → length j ≤ f → loop test (turn n) f b j ≡ Err (Unexpected k) → LoopStuck b j k) → Tested f a i (Err (Unexpected k)) → LoopStuck a i k
      by ih (inl d) = after ih d.0 (and_then-err (turn n a i) (loop test (turn n) f) (Unexpected k) d.1)
      by ih (inr d) = let bad = d.1 in absurd (cc)

  abbrev turns : A → Mode → Reader S X A
  turns a m = while test (turn m) a

  pub while-exact : (a : A) → P a → ExactTo n (Loop T a) (turns a) F (Begins a) P
  while-exact a wanted = record {
    sound = λ i t k e. loop-sound (length i) a i t k e;
    complete = λ i t k h x. loop-complete h x (length i) (omega arith);
    first = λ i t k h x. loop-first h x;
    met = λ i x k e. loop-met (length i) a i x k e;
    meets = λ i x k h. loop-meets a i x k h;
    done = λ i t k e. let d = loop-done (length i) a i t k (omega arith) e in record {
      front = d.front;
      cut = d.cut;
      again = λ m le j' g. d.again m le j' g (length (d.front ++ j')) (omega arith);
    };
    stuck = λ i k e. let d = loop-stuck (length i) a i k (omega arith) e in record {
      front = d.front;
      back = d.back;
      cut = d.cut;
      left = d.left;
      again = λ m le j' s. d.again m le j' s (length (d.front ++ j')) (omega arith);
      ending = d.ending;
      made = d.made;
      wanted = d.wanted;
      deep = d.deep;
      alive = λ m le deep z x. d.alive m le deep z x (length (d.front ++ (d.ending ++ z))) (omega arith);
      starts = λ z x. inr (d.starts z x);
    };
    sample = record {
      text = [];
      made = a;
      wanted = wanted;
      deep = 0;
      alive = λ m le deep z x. loop-halts m (length z) a z (halts a z x);
      starts = λ z x. inl x;
    };
  }

pub repetition : {S X A : Type 0} {n : Mode} {T : A → Rule S X A} {turn : Mode → A → Reader S X A} {F G B : List S → Type 0} (test : S → Bool)
    → ((a : A) → Exact n (T a) (λ m. turn m a) G B) → ((i : List S) → B i → heads test i ≡ true)
    → ((i : List S) → F i → heads test i ≡ false) → ((i : List S) → F i → G i) → ((i : List S) → heads test i ≡ true → G i) → F []
    → (a : A) → Exact n (Loop T a) (λ m. while test (turn m) a) F (λ i. F i ⊎ B i)
repetition {n = n} {T = T} {turn = turn} {F = F} {G = G} {B = B} test part begin halts weaken goes_on empty a = while-exact n test T turn (λ b. F) (λ b. G) (λ b. B) (λ b. ⊤) part (λ b. begin) (λ b. halts) (λ b. weaken) (λ b i x. goes_on i (begin i x)) (λ b. ([], empty)) a tt

-- what may follow, and how a turn begins, depends on what is made so far
pub repetition_on : {S X A : Type 0} {n : Mode} {T : A → Rule S X A} {turn : Mode → A → Reader S X A} {F G B : A → List S → Type 0} (test : S → Bool)
    → ((a : A) → ExactTo n (T a) (λ m. turn m a) G (B a) (λ b. ⊤)) → ((a : A) (i : List S) → B a i → heads test i ≡ true)
    → ((a : A) (i : List S) → F a i → heads test i ≡ false) → ((a : A) (i : List S) → F a i → G a i) → ((a : A) (i : List S) → B a i → G a i) → ((a : A) → F a [])
    → (a : A) → ExactTo n (Loop T a) (λ m. while test (turn m) a) F (λ i. F a i ⊎ B a i) (λ b. ⊤)
repetition_on {n = n} {T = T} {turn = turn} {F = F} {G = G} {B = B} test part begin halts weaken goes_on empty a = while-exact n test T turn F G B (λ b. ⊤) part begin halts weaken goes_on (λ b. ([], empty b)) a tt

-- something else than the end may follow: some text that may is given
pub repetition_before : {S X A : Type 0} {n : Mode} {T : A → Rule S X A} {turn : Mode → A → Reader S X A} {F G B : List S → Type 0} (test : S → Bool)
    → ((a : A) → Exact n (T a) (λ m. turn m a) G B) → ((i : List S) → B i → heads test i ≡ true)
    → ((i : List S) → F i → heads test i ≡ false) → ((i : List S) → F i → G i) → ((i : List S) → B i → G i) → (z : List S) → F z
    → (a : A) → Exact n (Loop T a) (λ m. while test (turn m) a) F (λ i. F i ⊎ B i)
repetition_before {n = n} {T = T} {turn = turn} {F = F} {G = G} {B = B} test part begin halts weaken goes_on z follows a = while-exact n test T turn (λ b. F) (λ b. G) (λ b. B) (λ b. ⊤) part (λ b. begin) (λ b. halts) (λ b. weaken) (λ b. goes_on) (λ b. (z, follows)) a tt
