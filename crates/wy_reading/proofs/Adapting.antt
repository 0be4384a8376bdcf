-- Other follow sets, other ways to write the same rule, other values.
use Rattle.std.proofs.Common.{◌≡◌, ℕ, List, Ok, Err, ◌⊎◌, inl, inr, refl, sym, ◌∙◌}
use Rattle.wy_reading.specs.declared.stop.Stop.TheVariants.{Unexpected}
use Rattle.wy_reading.specs.Mode.{Mode, Looser}
use Rattle.wy_reading.specs.Rule.{Rule, Pure, Then}
use Rattle.wy_reading.specs.Reader.{Reader, Outcome, ◌>>=◌, pure}
use Rattle.wy_reading.proofs.Exactness.{same_mode, Stuck, ExactTo, Exact}
use Rattle.wy_reading.proofs.Outcomes.{and_then-err}
use Rattle.wy_reading.proofs.Sequence.{sequence}
use Rattle.wy_reading.proofs.Single.{nothing}

-- other tests of what follows and of what begins
pub adapt : {S X A : Type 0} {n : Mode} {R : Rule S X A} {q : Mode → Reader S X A} {F B F' B' : List S → Type 0} {P P' : A → Type 0}
    → ExactTo n R q (λ a. F) B P → ((i : List S) → F' i → F i) → ((i : List S) → B i → B' i) → ((a : A) → P a → P' a) → ExactTo n R q (λ a. F') B' P'
adapt e f b p = record {
  sound = e.sound;
  complete = λ i a j h x. e.complete i a j h (f j x);
  first = λ i a j h x. b i (e.first i a j h (f j x));
  met = e.met;
  meets = λ i x k h. let d = e.meets i x k h in (d.0, b i d.1, d.2);
  done = λ i a j h. let d = e.done i a j h in record { front = d.front; cut = d.cut; again = λ m le j' g. d.again m le j' (elim g [ inl s ↦ inl s | inr x ↦ inr (f j' x) ]) };
  stuck = λ i k h. let d = e.stuck i k h in record {
    front = d.front;
    back = d.back;
    cut = d.cut;
    left = d.left;
    again = d.again;
    ending = d.ending;
    made = d.made;
    wanted = p d.made d.wanted;
    deep = d.deep;
    alive = λ m le deep z x. d.alive m le deep z (f z x);
    starts = λ z x. b _ (d.starts z (f z x));
  };
  sample = let s = e.sample in record {
    text = s.text;
    made = s.made;
    wanted = p s.made s.wanted;
    deep = s.deep;
    alive = λ m le deep z x. s.alive m le deep z (f z x);
    starts = λ z x. b _ (s.starts z (f z x));
  };
}

-- a rule that says the same
pub same_rule : {S X A : Type 0} {n : Mode} {R T : Rule S X A} {q : Mode → Reader S X A} {F : A → List S → Type 0} {B : List S → Type 0} {P : A → Type 0}
    → ExactTo n R q F B P → ((i : List S) (a : A) (j : List S) → R.reads i a j → T.reads i a j) → ((i : List S) (a : A) (j : List S) → T.reads i a j → R.reads i a j)
    → ((i : List S) (x : X) (k : ℕ) → R.meets i x k → T.meets i x k) → ((i : List S) (x : X) (k : ℕ) → T.meets i x k → R.meets i x k)
    → ExactTo n T q F B P
same_rule e to from meets_to meets_from = record {
  sound = λ i a j h. to i a j (e.sound i a j h);
  complete = λ i a j h x. e.complete i a j (from i a j h) x;
  first = λ i a j h x. e.first i a j (from i a j h) x;
  met = λ i x k h. meets_to i x k (e.met i x k h);
  meets = λ i x k h. e.meets i x k (meets_from i x k h);
  done = e.done;
  stuck = e.stuck;
  sample = e.sample;
}

-- ---- readers that agree in each looser mode

pub same_readers : {S X A : Type 0} {n : Mode} {R : Rule S X A} {q : Mode → Reader S X A} {F : A → List S → Type 0} {B : List S → Type 0} {P : A → Type 0} (p : Mode → Reader S X A)
    → ExactTo n R q F B P → ((m : Mode) → Looser n m → (i : List S) → p m i ≡ q m i) → ExactTo n R p F B P
same_readers {n = n} p e s = record {
  sound = λ i a j h. e.sound i a j (sym (s n (same_mode n) i) ∙ h);
  complete = λ i a j h f. s n (same_mode n) i ∙ e.complete i a j h f;
  first = e.first;
  met = λ i x k h. e.met i x k (sym (s n (same_mode n) i) ∙ h);
  meets = λ i x k h. let d = e.meets i x k h in (s n (same_mode n) i ∙ d.0, d.1, d.2);
  done = λ i a j h. let d = e.done i a j (sym (s n (same_mode n) i) ∙ h) in record { front = d.front; cut = d.cut; again = λ m le j' g. s m le _ ∙ d.again m le j' g };
  stuck = λ i k h. let d = e.stuck i k (sym (s n (same_mode n) i) ∙ h) in record {
    front = d.front;
    back = d.back;
    cut = d.cut;
    left = d.left;
    again = λ m le j' g. s m le _ ∙ d.again m le j' g;
    ending = d.ending;
    made = d.made;
    wanted = d.wanted;
    deep = d.deep;
    alive = λ m le deep z f. s m le _ ∙ d.alive m le deep z f;
    starts = d.starts;
  };
  sample = let d = e.sample in record { text = d.text; made = d.made; wanted = d.wanted; deep = d.deep; alive = λ m le deep z f. s m le _ ∙ d.alive m le deep z f; starts = d.starts };
}

-- ---- what is read, changed

-- where what is made in P is changed into what is in P'
module _ {S X A C : Type 0} (n : Mode) (R : Rule S X A) (q : Mode → Reader S X A) (F B : List S → Type 0) (P : A → Type 0) (f : A → C) (P' : C → Type 0)
    (e : ExactTo n R q (λ a. F) B P) (wanted : (a : A) → P a → P' (f a)) where
  abbrev map_read : Mode → Reader S X C
  map_read m = q m >>= (λ a. pure (f a))

  map-plain : Exact n (Then R (λ a. Pure (f a))) map_read F B
  map-plain = sequence e (λ a. nothing (f a)) (λ i h. h)

  map-stuck : (i : List S) (k : ℕ) → (q n i ≡ Err (Unexpected k)) ⊎ ((y : A × List S) × (q n i ≡ Ok y) × (let r : Outcome S X C = Ok (f y.0, y.1) in r ≡ Err (Unexpected k))) → Stuck n map_read (λ a. F) B P' i k
  map-stuck i k (inl h) = let d = e.stuck i k h in record {
    front = d.front;
    back = d.back;
    cut = d.cut;
    left = d.left;
    again = λ m le j' s. rw (d.again m le j' s) refl;
    ending = d.ending;
    made = f d.made;
    wanted = wanted d.made d.wanted;
    deep = d.deep;
    alive = λ m le deep z g. rw (d.alive m le deep z g) refl;
    starts = d.starts;
  }
  map-stuck i k (inr y) = let bad = y.2 in absurd (cc)

  pub map-exact : ExactTo n (Then R (λ a. Pure (f a))) map_read (λ a. F) B P'
  map-exact = let b = map-plain in record {
    sound = b.sound;
    complete = b.complete;
    first = b.first;
    met = b.met;
    meets = b.meets;
    done = b.done;
    stuck = λ i k h. map-stuck i k (and_then-err (q n i) (λ a. pure (f a)) (Unexpected k) h);
    sample = let s = e.sample in record {
      text = s.text;
      made = f s.made;
      wanted = wanted s.made s.wanted;
      deep = s.deep;
      alive = λ m le deep z g. rw (s.alive m le deep z g) refl;
      starts = s.starts;
    };
  }

pub mapped : {S X A C : Type 0} {n : Mode} {R : Rule S X A} {q : Mode → Reader S X A} {F B : List S → Type 0} {P : A → Type 0} {P' : C → Type 0} (f : A → C)
    → ExactTo n R q (λ a. F) B P → ((a : A) → P a → P' (f a)) → ExactTo n (Then R (λ a. Pure (f a))) (λ m. q m >>= (λ a. pure (f a))) (λ a. F) B P'
mapped {n = n} {R = R} {q = q} {F = F} {B = B} {P = P} {P' = P'} f e wanted = map-exact n R q F B P f P' e wanted
