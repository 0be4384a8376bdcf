-- What may not follow, or not begin: `Barred`, `Fenced`, `Unless`.
use Rattle.std.proofs.Common.{◌≡◌, ℕ, ◌≤◌, Bool, true, false, true≢false, List, [], ◌∷◌, ◌++◌, length, Ok, Err, ◌⊎◌, inl, inr, refl, sym, ap, ◌∙◌}
use Rattle.std.specs.Bool.{⊤}
use Rattle.wy_reading.specs.declared.stop.Stop.TheVariants.{Unexpected, Fault}
use Rattle.wy_reading.specs.Mode.{Mode, Looser}
use Rattle.wy_reading.specs.Rule.{Rule, heads, Pure, Unless, Fenced}
use Rattle.wy_reading.specs.Reader.{Reader, Outcome, pure, refuse, branch, unless, fenced}
use Rattle.wy_reading.proofs.Exactness.{SameHead, Instead, same_mode, Stuck, Sample, ExactTo, Exact, Passes}
use Rattle.wy_reading.proofs.Outcomes.{if-cases, SameHead-heads}
use Rattle.wy_reading.proofs.Single.{nothing}
use Rattle.wy_reading.proofs.Choice.{choice}
use Rattle.wy_reading.proofs.Adapting.{adapt, same_readers}
use Rattle.wy_reading.proofs.Levels.{lowest}

-- ---- the first symbol left out

module _ {S X A : Type 0} (n : Mode) (test : S → Bool) (R : Rule S X A) (q : Mode → Reader S X A) (F : A → List S → Type 0) (B : List S → Type 0) (P : A → Type 0)
    (e : ExactTo n R q F B P) (sample : Sample n q F B P) (clear : (z : List S) → F sample.made z → heads test (sample.text ++ z) ≡ false) (empty : (a : A) → F a []) (begun : B [] → ⊥) where
  abbrev unless_read : Mode → Reader S X A
  unless_read m = unless test (q m)

  abbrev Starts : List S → Type 0
  Starts i = B i × (heads test i ≡ false)

  reads_on : (m : Mode) (i : List S) → heads test i ≡ false → unless_read m i ≡ q m i
  reads_on m i h = rw h refl

  declined : (m : Mode) (i : List S) → heads test i ≡ true → unless_read m i ≡ Err (Unexpected (length i))
  declined m i h = rw h refl

  abbrev Given : List S → Outcome S X A → Type 0
  Given i r = ((heads test i ≡ true) × (let bad : Outcome S X A = refuse i in bad ≡ r)) ⊎ ((heads test i ≡ false) × (q n i ≡ r))

  given : (i : List S) (r : Outcome S X A) → unless_read n i ≡ r → Given i r
  given i r h = if-cases (heads test i) _ _ _ h

  well : (i : List S) (a : A) (j : List S) → Given i (Ok (a, j)) → (heads test i ≡ false) × (q n i ≡ Ok (a, j))
  well i a j (inl h) = let bad = h.1 in absurd (cc)
  well i a j (inr h) = h

  unless-met : (i : List S) (x : X) (k : ℕ) → Given i (Err (Fault x k)) → (heads test i ≡ false) × R.meets i x k
  unless-met i x k (inl h) = let bad = h.1 in absurd (cc)
  unless-met i x k (inr h) = (h.0, e.met i x k h.1)

  -- R takes a symbol, so the head stays
  kept : (front j j' : List S) (a : A) → ((l : List S) → Instead (F a) j l → q n (front ++ l) ≡ Ok (a, l)) → heads test (front ++ j) ≡ false → heads test (front ++ j') ≡ false
  kept [] j j' a again h = absurd (begun (e.first [] a [] (e.sound [] a [] (again [] (inr (empty a)))) (empty a)))
  kept (t ∷ front) j j' a again h = h

  from : (i : List S) (k : ℕ) (front back : List S) → Stuck n q F B P i k → i ≡ front ++ back → k ≡ length back
      → ((m : Mode) → Looser n m → (j' : List S) → SameHead back j' → q m (front ++ j') ≡ Err (Unexpected (length j')))
      → (ending : List S) (made : A) → P made → (deep : ℕ)
      → ((m : Mode) → Looser n m → deep ≤ m.depth → (z : List S) → F made z → q m (front ++ (ending ++ z)) ≡ Ok (made, z))
      → ((z : List S) → F made z → B (front ++ (ending ++ z))) → heads test i ≡ false → Stuck n unless_read F Starts P i k
  from i k [] back d cut left again ending made wanted deep alive starts h = record {
    front = [];
    back = back;
    cut = cut;
    left = left;
    again = λ m le j' s. reads_on m j' (sym (SameHead-heads test back j' s) ∙ (ap (λ l. heads test l) (sym cut) ∙ h)) ∙ again m le j' s;
    ending = sample.text;
    made = sample.made;
    wanted = sample.wanted;
    deep = sample.deep;
    alive = λ m le deep z f. reads_on m _ (clear z f) ∙ sample.alive m le deep z f;
    starts = λ z f. (sample.starts z f, clear z f);
  }
  from i k (t ∷ front) back d cut left again ending made wanted deep alive starts h =
      let t_clear : test t ≡ false = ap (λ l. heads test l) (sym cut) ∙ h in
      record {
        front = t ∷ front;
        back = back;
        cut = cut;
        left = left;
        again = λ m le j' s. reads_on m (t ∷ front ++ j') t_clear ∙ again m le j' s;
        ending = ending;
        made = made;
        wanted = wanted;
        deep = deep;
        alive = λ m le deep z f. reads_on m (t ∷ front ++ (ending ++ z)) t_clear ∙ alive m le deep z f;
        starts = λ z f. (starts z f, t_clear);
      }

  unless-stuck : (i : List S) (k : ℕ) → Given i (Err (Unexpected k)) → Stuck n unless_read F Starts P i k
  unless-stuck i k (inl h) = record {
    front = [];
    back = i;
    cut = refl;
    left = (let same = h.1 in cc);
    again = λ m le j' s. declined m j' (sym (SameHead-heads test i j' s) ∙ h.0);
    ending = sample.text;
    made = sample.made;
    wanted = sample.wanted;
    deep = sample.deep;
    alive = λ m le deep z f. reads_on m _ (clear z f) ∙ sample.alive m le deep z f;
    starts = λ z f. (sample.starts z f, clear z f);
  }
  unless-stuck i k (inr h) =
      let d = e.stuck i k h.1 in
      from i k d.front d.back d d.cut d.left d.again d.ending d.made d.wanted d.deep d.alive d.starts h.0

  pub unless-exact : ExactTo n (Unless test R) unless_read F Starts P
  unless-exact = record {
    sound = λ i a j h. let c = well i a j (given i _ h) in (c.0, e.sound i a j c.1);
    complete = λ i a j h f. reads_on n i h.0 ∙ e.complete i a j h.1 f;
    first = λ i a j h f. (e.first i a j h.1 f, h.0);
    met = λ i x k h. unless-met i x k (given i _ h);
    meets = λ i x k h. let d = e.meets i x k h.1 in (reads_on n i h.0 ∙ d.0, (d.1, h.0), d.2);
    done = λ i a j h. let c = well i a j (given i _ h) in let d = e.done i a j c.1 in record {
      front = d.front;
      cut = d.cut;
      again = λ m le j' g.
          let start = ap (λ l. heads test l) (sym d.cut) ∙ c.0 in
          reads_on m _ (kept d.front j j' a (λ l. d.again n (same_mode n) l) start) ∙ d.again m le j' g;
    };
    stuck = λ i k h. unless-stuck i k (given i _ h);
    sample = record {
      text = sample.text;
      made = sample.made;
      wanted = sample.wanted;
      deep = sample.deep;
      alive = λ m le deep z f. reads_on m _ (clear z f) ∙ sample.alive m le deep z f;
      starts = λ z f. (sample.starts z f, clear z f);
    };
  }

-- ---- a bar where checks are made, and what it keeps out where they aren't

module _ {S X A : Type 0} (test : S → Bool) (x : X) (T : A → Rule S X A) (turn : Mode → A → Reader S X A) (F : List S → Type 0) (halts : (i : List S) → F i → heads test i ≡ false) where
  abbrev fence : A → Mode → Reader S X A
  fence a m = fenced m.strict test x (turn m) a

  fence-halts : (s : Bool) (m : Mode) (a : A) (i : List S) → heads test i ≡ false → fenced s test x (turn m) a i ≡ Ok (a, i)
  fence-halts true m a i h = rw h refl
  fence-halts false m a i h = rw h refl

  pub fenced-strict : (d : ℕ) (a : A) → Exact (record { depth = d; strict = true }) (Fenced true test x T a) (fence a) F (λ i. Passes test i ⊎ F i)
  fenced-strict d a =
      lowest (record { depth = d; strict = true }) test x (Pure a) (λ m. pure a) (fence a) F F (λ b. ⊤) (nothing a) halts
      (λ m i h. fence-halts m.strict m a i h) (λ i h. rw h refl)

  lax_reads : (s : Bool) (m : Mode) (a : A) (i : List S) → (s ≡ true → false ≡ true) → fenced s test x (turn m) a i ≡ branch test (turn m a) (pure a) i
  lax_reads true m a i h = absurd (true≢false (sym (h refl)))
  lax_reads false m a i h = refl

  pub fenced-lax : {B : List S → Type 0} (d : ℕ) (a : A) → (let n : Mode = record { depth = d; strict = false } in Exact n (T a) (λ m. turn m a) F B)
      → ((i : List S) → B i → heads test i ≡ true) → Exact (record { depth = d; strict = false }) (Fenced false test x T a) (fence a) F (λ i. B i ⊎ F i)
  fenced-lax d a part begin = same_readers (fence a) (choice test part (nothing a) begin halts) (λ m le i. lax_reads m.strict m a i le.1)

  pub fenced-exact : {B : List S → Type 0} (d : ℕ) (s : Bool) (a : A) → (let n : Mode = record { depth = d; strict = s } in Exact n (T a) (λ m. turn m a) F B)
      → ((i : List S) → B i → heads test i ≡ true) → Exact (record { depth = d; strict = s }) (Fenced s test x T a) (fence a) F (λ i. Passes test i ⊎ F i)
  fenced-exact d true a part begin = fenced-strict d a
  fenced-exact d false a part begin = adapt (fenced-lax d a part begin) (λ i f. f) (λ i b. elim b [ inl h ↦ inl (begin i h) | inr f ↦ inr f ]) (λ b p. tt)
