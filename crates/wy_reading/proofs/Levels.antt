-- Levels of nesting, and `Refused`.
use Rattle.std.proofs.Common.{◌≡◌, ℕ, zero, suc, ◌≤◌, Bool, true, false, List, [], ◌∷◌, ◌++◌, length, Ok, Err, ◌⊎◌, inl, inr, refl, sym, ap, ◌∙◌, arith}
use Rattle.wy_reading.specs.declared.stop.Stop.TheVariants.{Unexpected, Fault}
use Rattle.wy_reading.specs.Mode.{Mode, Looser}
use Rattle.wy_reading.specs.Rule.{Rule, heads, Or, Refused}
use Rattle.wy_reading.specs.Reader.{Reader, Outcome}
use Rattle.wy_reading.proofs.Exactness.{SameHead, Instead, same_mode, ExactTo, Passes}
use Rattle.wy_reading.proofs.Outcomes.{SameHead-heads}

-- ---- nesting

abbrev pub up : Mode → Mode
up n = record { depth = suc n.depth; strict = n.strict }

pub above : (n m : Mode) → Looser (up n) m → (l : Mode) × (m ≡ up l) × Looser n l
above n m le = by m.depth m.strict le
  where
    by : (d : ℕ) (s : Bool) → Looser (up n) (record { depth = d; strict = s }) → (l : Mode) × (let m' : Mode = record { depth = d; strict = s } in m' ≡ up l) × Looser n l
    by zero s h = absurd (omega (arith, h.0))
    by (suc d) s h = (record { depth = d; strict = s }, refl, (omega (arith, h.0), h.1))

-- one level more
pub deeper : {S X A : Type 0} {F : A → List S → Type 0} {B : List S → Type 0} {P : A → Type 0} (n : Mode) (R : Rule S X A) (q : Mode → Reader S X A)
    → ExactTo n R (λ m. q (up m)) F B P → ExactTo (up n) R q F B P
deeper n R q e = record {
  sound = e.sound;
  complete = e.complete;
  first = e.first;
  met = e.met;
  meets = e.meets;
  done = λ i a j h. let d = e.done i a j h in record {
    front = d.front;
    cut = d.cut;
    again = λ m le j' g. let l = above n m le in rw l.1 (d.again l.0 l.2 j' g);
  };
  stuck = λ i x h. let d = e.stuck i x h in record {
    front = d.front;
    back = d.back;
    cut = d.cut;
    left = d.left;
    again = λ m le j' s. let l = above n m le in rw l.1 (d.again l.0 l.2 j' s);
    ending = d.ending;
    made = d.made;
    wanted = d.wanted;
    deep = suc d.deep;
    alive = λ m le deep z f. let l = above n m le in rw l.1 (d.alive l.0 l.2 (omega (arith, ap (λ (w : Mode). w.depth) l.1, deep)) z f);
    starts = d.starts;
  };
  sample = let s = e.sample in record {
    text = s.text;
    made = s.made;
    wanted = s.wanted;
    deep = suc s.deep;
    alive = λ m le deep z f. let l = above n m le in rw l.1 (s.alive l.0 l.2 (omega (arith, ap (λ (w : Mode). w.depth) l.1, deep)) z f);
    starts = s.starts;
  };
}

-- At the lowest level what the test begins is refused, and the rest is as on every level.
module _ {S X A : Type 0} (n : Mode) (test : S → Bool) (x : X) (R : Rule S X A) (q : Mode → Reader S X A) (p : Mode → Reader S X A) (F B : List S → Type 0) (P : A → Type 0)
    (e : ExactTo n R q (λ a. F) B P) (there : (i : List S) → B i → heads test i ≡ false)
    (falls : (m : Mode) (i : List S) → heads test i ≡ false → p m i ≡ q m i) (refuses : (i : List S) → heads test i ≡ true → p n i ≡ Err (Fault x (length i))) where
  abbrev Starts : List S → Type 0
  Starts i = Passes test i ⊎ B i

  abbrev Chosen : List S → Outcome S X A → Type 0
  Chosen i r = ((heads test i ≡ true) × (let bad : Outcome S X A = Err (Fault x (length i)) in bad ≡ r)) ⊎ ((heads test i ≡ false) × (q n i ≡ r))

  choose : (b : Bool) (i : List S) (r : Outcome S X A) → heads test i ≡ b → p n i ≡ r → Chosen i r
  choose true i r h g = inl (h, sym (refuses i h) ∙ g)
  choose false i r h g = inr (h, sym (falls n i h) ∙ g)

  chosen : (i : List S) (r : Outcome S X A) → p n i ≡ r → Chosen i r
  chosen i r g = choose (heads test i) i r refl g

  low-sound : (i : List S) (a : A) (j : List S) → Chosen i (Ok (a, j)) → (q n i ≡ Ok (a, j)) × (heads test i ≡ false)
  low-sound i a j (inl h) = let bad = h.1 in absurd (cc)
  low-sound i a j (inr h) = (h.1, h.0)

  low-stuck : (i : List S) (k : ℕ) → Chosen i (Err (Unexpected k)) → (q n i ≡ Err (Unexpected k)) × (heads test i ≡ false)
  low-stuck i k (inl h) = let bad = h.1 in absurd (cc)
  low-stuck i k (inr h) = (h.1, h.0)

  low-met : (i : List S) (y : X) (k : ℕ) → Chosen i (Err (Fault y k)) → ((heads test i ≡ true) × (y ≡ x) × (k ≡ length i)) ⊎ R.meets i y k
  low-met i y k (inl h) = let same = h.1 in inl (h.0, (cc), (cc))
  low-met i y k (inr h) = inr (e.met i y k h.1)

  low-meets : (i : List S) (y : X) (k : ℕ) → ((heads test i ≡ true) × (y ≡ x) × (k ≡ length i)) ⊎ R.meets i y k → (p n i ≡ Err (Fault y k)) × Starts i × (k ≤ length i)
  low-meets i y k (inl h) = (rw (refuses i h.0, h.1, h.2) refl, inl h.0, omega (arith, h.2))
  low-meets i y k (inr h) = let d = e.meets i y k h in (falls n i (there i d.1) ∙ d.0, inr d.1, d.2)

  low-reads : (i : List S) (a : A) (j : List S) → ⊥ ⊎ R.reads i a j → R.reads i a j
  low-reads i a j (inl h) = absurd h
  low-reads i a j (inr h) = h

  -- where it is read again, the first symbol fails the test still
  still : (front j j' : List S) (a : A) → ((l : List S) → Instead F j l → q n (front ++ l) ≡ Ok (a, l)) → heads test (front ++ j) ≡ false → Instead F j j' → heads test (front ++ j') ≡ false
  still front j j' a again h (inl s) = sym (SameHead-heads test _ _ (behind front j j' s)) ∙ h
    where
      behind : (front j j' : List S) → SameHead j j' → SameHead (front ++ j) (front ++ j')
      behind [] j j' s = s
      behind (t ∷ front) j j' s = refl
  still front j j' a again h (inr f) = there _ (e.first _ a j' (e.sound _ a j' (again j' (inr f))) f)

  kept : (front j j' : List S) → SameHead j j' → heads test (front ++ j) ≡ false → heads test (front ++ j') ≡ false
  kept [] j j' s h = sym (SameHead-heads test j j' s) ∙ h
  kept (t ∷ front) j j' s h = h

  pub lowest : ExactTo n (Or (Refused test x) R) p (λ a. F) Starts P
  lowest = record {
    sound = λ i a j h. inr (e.sound i a j (low-sound i a j (chosen i (Ok (a, j)) h)).0);
    complete = λ i a j h f. let r = low-reads i a j h in falls n i (there i (e.first i a j r f)) ∙ e.complete i a j r f;
    first = λ i a j h f. inr (e.first i a j (low-reads i a j h) f);
    met = λ i y k h. low-met i y k (chosen i (Err (Fault y k)) h);
    meets = low-meets;
    done = λ i a j h. let c = low-sound i a j (chosen i (Ok (a, j)) h) in let d = e.done i a j c.0 in record {
      front = d.front;
      cut = d.cut;
      again = λ m le j' g. falls m _ (still d.front j j' a (λ l. d.again n (same_mode n) l) (ap (λ l. heads test l) (sym d.cut) ∙ c.1) g) ∙ d.again m le j' g;
    };
    stuck = λ i k h. let c = low-stuck i k (chosen i (Err (Unexpected k)) h) in let d = e.stuck i k c.0 in record {
      front = d.front;
      back = d.back;
      cut = d.cut;
      left = d.left;
      again = λ m le j' s. falls m _ (kept d.front d.back j' s (ap (λ l. heads test l) (sym d.cut) ∙ c.1)) ∙ d.again m le j' s;
      ending = d.ending;
      made = d.made;
      wanted = d.wanted;
      deep = d.deep;
      alive = λ m le deep z f. falls m _ (there _ (d.starts z f)) ∙ d.alive m le deep z f;
      starts = λ z f. inr (d.starts z f);
    };
    sample = let s = e.sample in record {
      text = s.text;
      made = s.made;
      wanted = s.wanted;
      deep = s.deep;
      alive = λ m le deep z f. falls m _ (there _ (s.starts z f)) ∙ s.alive m le deep z f;
      starts = λ z f. inr (s.starts z f);
    };
  }
