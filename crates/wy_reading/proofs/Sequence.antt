-- One after the other: `Then`.
use Rattle.std.proofs.Common.{◌≡◌, ℕ, ◌≤◌, max, List, [], ◌∷◌, ◌++◌, length, Ok, Err, ◌⊎◌, inl, inr, refl, sym, ap, ◌∙◌, subst, arith, append_assoc, length-append}
use Rattle.wy_reading.specs.declared.stop.Stop.TheVariants.{Unexpected, Fault}
use Rattle.wy_reading.specs.Mode.{Mode}
use Rattle.wy_reading.specs.Rule.{Rule, Then}
use Rattle.wy_reading.specs.Reader.{Reader, ◌>>=◌}
use Rattle.wy_reading.proofs.Exactness.{SameHead, Instead, same_mode, Done, Stuck, Sample, ExactTo}
use Rattle.wy_reading.proofs.Outcomes.{and_then-ok, and_then-err, SameHead-behind}

-- ---- one after the other

module _ {S X A C : Type 0} (n : Mode) (R : Rule S X A) (q : Mode → Reader S X A) (F : A → List S → Type 0) (B : List S → Type 0) (T : A → Rule S X C) (p : Mode → A → Reader S X C) (F' : C → List S → Type 0) (B' : A → List S → Type 0) (P : A → Type 0) (P' : C → Type 0)
    (one : ExactTo n R q F B P) (two : (a : A) → ExactTo n (T a) (λ m. p m a) F' (B' a) P') (link : (a : A) (i : List S) → B' a i → F a i) where
  abbrev both : Mode → Reader S X C
  both m = q m >>= p m

  -- what the second reads lets the first end there
  seam : (a : A) (c : C) (front k j' : List S) → ((l : List S) → Instead (F' c) k l → p n a (front ++ l) ≡ Ok (c, l)) → Instead (F' c) k j' → Instead (F a) (front ++ k) (front ++ j')
  seam a c (s ∷ front) k j' again g = inl refl
  seam a c [] k j' again (inl h) = inl h
  seam a c [] k j' again (inr f) = inr (link a j' ((two a).first j' c j' ((two a).sound j' c j' (again j' (inr f))) f))

  then-done : (i : List S) (c : C) (k : List S) → both n i ≡ Ok (c, k) → Done n both F' i c k
  then-done i c k e =
      let y = and_then-ok (q n i) (p n) (c, k) e in
      let a = y.0.0 in let j = y.0.1 in
      let d = one.done i a j y.1 in
      let d' = (two a).done j c k y.2 in
      record {
        front = d.front ++ d'.front;
        cut = d.cut ∙ (ap (λ l. d.front ++ l) d'.cut ∙ sym (append_assoc d.front d'.front k));
        again = λ m le j' g.
            let goes : Instead (F a) j (d'.front ++ j') = subst (λ l. Instead (F a) l (d'.front ++ j')) (sym d'.cut) (seam a c d'.front k j' (λ l. d'.again n (same_mode n) l) g) in
            rw (append_assoc d.front d'.front j', d.again m le (d'.front ++ j') goes) (d'.again m le j' g);
      }

  then-stuck : (i : List S) (k : ℕ) → both n i ≡ Err (Unexpected k) → Stuck n both F' B P' i k
  then-stuck i k e = by (and_then-err (q n i) (p n) (Unexpected k) e)
    where
      by : (q n i ≡ Err (Unexpected k)) ⊎ ((y : A × List S) × (q n i ≡ Ok y) × (p n y.0 y.1 ≡ Err (Unexpected k))) → Stuck n both F' B P' i k
      by (inl h) =
          let d = one.stuck i k h in
          let x = (two d.made).sample in
          record {
            front = d.front;
            back = d.back;
            cut = d.cut;
            left = d.left;
            again = λ m le j' s. rw (d.again m le j' s) refl;
            ending = d.ending ++ x.text;
            made = x.made;
            wanted = x.wanted;
            deep = max d.deep x.deep;
            alive = λ m le deep z f.
                let e = d.alive m le (omega arith) (x.text ++ z) (link d.made (x.text ++ z) (x.starts z f)) in
                rw (append_assoc d.ending x.text z, e) (x.alive m le (omega arith) z f);
            starts = λ z f. rw (append_assoc d.ending x.text z) (d.starts (x.text ++ z) (link d.made (x.text ++ z) (x.starts z f)));
          }
      by (inr y) =
          let a = y.0.0 in let j = y.0.1 in
          let d = one.done i a j y.1 in
          let d' = (two a).stuck j k y.2 in
          record {
            front = d.front ++ d'.front;
            back = d'.back;
            cut = d.cut ∙ (ap (λ l. d.front ++ l) d'.cut ∙ sym (append_assoc d.front d'.front d'.back));
            left = d'.left;
            again = λ m le j' s.
                let goes : Instead (F a) j (d'.front ++ j') = inl (subst (λ l. SameHead l (d'.front ++ j')) (sym d'.cut) (SameHead-behind d'.front d'.back j' s)) in
                rw (append_assoc d.front d'.front j', d.again m le (d'.front ++ j') goes) (d'.again m le j' s);
            ending = d'.ending;
            made = d'.made;
            wanted = d'.wanted;
            deep = d'.deep;
            alive = λ m le deep z f.
                let e = d.again m le (d'.front ++ (d'.ending ++ z)) (inr (link a _ (d'.starts z f))) in
                rw (append_assoc d.front d'.front (d'.ending ++ z), e) (d'.alive m le deep z f);
            starts = λ z f.
                let follows = link a _ (d'.starts z f) in
                let x = d'.front ++ (d'.ending ++ z) in
                rw (append_assoc d.front d'.front (d'.ending ++ z)) (one.first (d.front ++ x) a x (one.sound (d.front ++ x) a x (d.again n (same_mode n) x (inr follows))) follows);
          }

  then-sample : Sample n both F' B P'
  then-sample =
      let s = one.sample in
      let x = (two s.made).sample in
      record {
        text = s.text ++ x.text;
        made = x.made;
        wanted = x.wanted;
        deep = max s.deep x.deep;
        alive = λ m le deep z f.
            let e = s.alive m le (omega arith) (x.text ++ z) (link s.made (x.text ++ z) (x.starts z f)) in
            rw (append_assoc s.text x.text z, e) (x.alive m le (omega arith) z f);
        starts = λ z f. rw (append_assoc s.text x.text z) (s.starts (x.text ++ z) (link s.made (x.text ++ z) (x.starts z f)));
      }

  then-met : (i : List S) (x : X) (k : ℕ) → (q n i ≡ Err (Fault x k)) ⊎ ((y : A × List S) × (q n i ≡ Ok y) × (p n y.0 y.1 ≡ Err (Fault x k))) → (Then R T).meets i x k
  then-met i x k (inl h) = inl (one.met i x k h)
  then-met i x k (inr y) = inr (y.0.0, y.0.1, one.sound i y.0.0 y.0.1 y.1, (two y.0.0).met y.0.1 x k y.2)

  then-meets : (i : List S) (x : X) (k : ℕ) → (Then R T).meets i x k → (both n i ≡ Err (Fault x k)) × B i × (k ≤ length i)
  then-meets i x k (inl h) = let d = one.meets i x k h in (rw d.0 refl, d.1, d.2)
  then-meets i x k (inr h) =
      let a = h.0 in let j = h.1 in
      let d = (two a).meets j x k h.3 in
      let f = link a j d.1 in
      let e = one.complete i a j h.2 f in
      let c = one.done i a j e in
      (rw e d.0, one.first i a j h.2 f, omega (arith, d.2, ap length c.cut, length-append c.front j))

  pub then-exact : ExactTo n (Then R T) both F' B P'
  then-exact = record {
    sound = λ i c k e. let y = and_then-ok (q n i) (p n) (c, k) e in (y.0.0, y.0.1, one.sound i y.0.0 y.0.1 y.1, (two y.0.0).sound y.0.1 c k y.2);
    complete = λ i c k h f. rw (one.complete i h.0 h.1 h.2 (link h.0 h.1 ((two h.0).first h.1 c k h.3 f))) ((two h.0).complete h.1 c k h.3 f);
    first = λ i c k h f. one.first i h.0 h.1 h.2 (link h.0 h.1 ((two h.0).first h.1 c k h.3 f));
    met = λ i x k e. then-met i x k (and_then-err (q n i) (p n) (Fault x k) e);
    meets = then-meets;
    done = then-done;
    stuck = then-stuck;
    sample = then-sample;
  }

-- what may follow depends on what is read
pub sequence_on : {S X A C : Type 0} {n : Mode} {R : Rule S X A} {q : Mode → Reader S X A} {F : A → List S → Type 0} {B : List S → Type 0} {T : A → Rule S X C} {p : Mode → A → Reader S X C} {F' : C → List S → Type 0} {B' : A → List S → Type 0} {P : A → Type 0} {P' : C → Type 0}
    → ExactTo n R q F B P → ((a : A) → ExactTo n (T a) (λ m. p m a) F' (B' a) P') → ((a : A) (i : List S) → B' a i → F a i) → ExactTo n (Then R T) (λ m. q m >>= p m) F' B P'
sequence_on {n = n} {R = R} {q = q} {F = F} {B = B} {T = T} {p = p} {F' = F'} {B' = B'} {P = P} {P' = P'} first second link = then-exact n R q F B T p F' B' P P' first second link

pub sequence : {S X A C : Type 0} {n : Mode} {R : Rule S X A} {q : Mode → Reader S X A} {F B : List S → Type 0} {T : A → Rule S X C} {p : Mode → A → Reader S X C} {F' : C → List S → Type 0} {B' : List S → Type 0} {P : A → Type 0} {P' : C → Type 0}
    → ExactTo n R q (λ a. F) B P → ((a : A) → ExactTo n (T a) (λ m. p m a) F' B' P') → ((i : List S) → B' i → F i) → ExactTo n (Then R T) (λ m. q m >>= p m) F' B P'
sequence {n = n} {R = R} {q = q} {F = F} {B = B} {T = T} {p = p} {F' = F'} {B' = B'} {P = P} {P' = P'} first second link = then-exact n R q (λ a. F) B T p F' (λ a. B') P P' first second (λ a i b. link i b)
