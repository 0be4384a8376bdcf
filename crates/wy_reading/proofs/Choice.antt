-- The one or the other, by the first symbol: `Or`.
use Rattle.std.proofs.Common.{◌≡◌, ℕ, ◌≤◌, Bool, true, false, List, ◌++◌, length, Ok, Err, ◌⊎◌, inl, inr, refl, sym, ap, ◌∙◌}
use Rattle.wy_reading.specs.declared.stop.Stop.TheVariants.{Unexpected, Fault}
use Rattle.wy_reading.specs.Mode.{Mode}
use Rattle.wy_reading.specs.Rule.{Rule, heads, Or}
use Rattle.wy_reading.specs.Reader.{Reader, Outcome, branch}
use Rattle.wy_reading.proofs.Exactness.{Instead, same_mode, Done, Stuck, ExactTo}
use Rattle.wy_reading.proofs.Outcomes.{if-cases, SameHead-heads, SameHead-behind}

-- ---- one or the other, by the first symbol

module _ {S X A : Type 0} (n : Mode) (test : S → Bool) (R : Rule S X A) (q : Mode → Reader S X A) (T : Rule S X A) (p : Mode → Reader S X A) (F : A → List S → Type 0) (B B' : List S → Type 0) (P : A → Type 0)
    (one : ExactTo n R q F B P) (other : ExactTo n T p F B' P) (here : (i : List S) → B i → heads test i ≡ true) (there : (i : List S) → B' i → heads test i ≡ false) where
  abbrev either : Mode → Reader S X A
  either m = branch test (q m) (p m)

  abbrev Begins : List S → Type 0
  Begins i = B i ⊎ B' i

  yes-read : (m : Mode) (i : List S) → heads test i ≡ true → either m i ≡ q m i
  yes-read m i h = rw h refl

  no-read : (m : Mode) (i : List S) → heads test i ≡ false → either m i ≡ p m i
  no-read m i h = rw h refl

  abbrev Chosen : List S → Outcome S X A → Type 0
  Chosen i r = ((heads test i ≡ true) × (q n i ≡ r)) ⊎ ((heads test i ≡ false) × (p n i ≡ r))

  chosen : (i : List S) (r : Outcome S X A) → either n i ≡ r → Chosen i r
  chosen i r e = if-cases (heads test i) _ _ _ e

  -- where the first part is read again, the first symbol passes the test still
  passes-again : (front j j' : List S) (a : A) → ((l : List S) → Instead (F a) j l → q n (front ++ l) ≡ Ok (a, l)) → heads test (front ++ j) ≡ true → Instead (F a) j j' → heads test (front ++ j') ≡ true
  passes-again front j j' a again h (inl s) = sym (SameHead-heads test _ _ (SameHead-behind front j j' s)) ∙ h
  passes-again front j j' a again h (inr f) = here _ (one.first _ a j' (one.sound _ a j' (again j' (inr f))) f)

  fails-again : (front j j' : List S) (a : A) → ((l : List S) → Instead (F a) j l → p n (front ++ l) ≡ Ok (a, l)) → heads test (front ++ j) ≡ false → Instead (F a) j j' → heads test (front ++ j') ≡ false
  fails-again front j j' a again h (inl s) = sym (SameHead-heads test _ _ (SameHead-behind front j j' s)) ∙ h
  fails-again front j j' a again h (inr f) = there _ (other.first _ a j' (other.sound _ a j' (again j' (inr f))) f)

  or-done : (i : List S) (a : A) (j : List S) → Chosen i (Ok (a, j)) → Done n either F i a j
  or-done i a j (inl h) = let d = one.done i a j h.1 in record {
    front = d.front;
    cut = d.cut;
    again = λ m le j' g.
        let still = passes-again d.front j j' a (λ l. d.again n (same_mode n) l) (ap (λ l. heads test l) (sym d.cut) ∙ h.0) g in
        yes-read m (d.front ++ j') still ∙ d.again m le j' g;
  }
  or-done i a j (inr h) = let d = other.done i a j h.1 in record {
    front = d.front;
    cut = d.cut;
    again = λ m le j' g.
        let still = fails-again d.front j j' a (λ l. d.again n (same_mode n) l) (ap (λ l. heads test l) (sym d.cut) ∙ h.0) g in
        no-read m (d.front ++ j') still ∙ d.again m le j' g;
  }

  or-stuck : (i : List S) (k : ℕ) → Chosen i (Err (Unexpected k)) → Stuck n either F Begins P i k
  or-stuck i k (inl h) = let d = one.stuck i k h.1 in record {
    front = d.front;
    back = d.back;
    cut = d.cut;
    left = d.left;
    again = λ m le j' s.
        let still = sym (SameHead-heads test _ _ (SameHead-behind d.front d.back j' s)) ∙ (ap (λ l. heads test l) (sym d.cut) ∙ h.0) in
        yes-read m (d.front ++ j') still ∙ d.again m le j' s;
    ending = d.ending;
    made = d.made;
    wanted = d.wanted;
    deep = d.deep;
    alive = λ m le deep z f. yes-read m _ (here _ (d.starts z f)) ∙ d.alive m le deep z f;
    starts = λ z f. inl (d.starts z f);
  }
  or-stuck i k (inr h) = let d = other.stuck i k h.1 in record {
    front = d.front;
    back = d.back;
    cut = d.cut;
    left = d.left;
    again = λ m le j' s.
        let still = sym (SameHead-heads test _ _ (SameHead-behind d.front d.back j' s)) ∙ (ap (λ l. heads test l) (sym d.cut) ∙ h.0) in
        no-read m (d.front ++ j') still ∙ d.again m le j' s;
    ending = d.ending;
    made = d.made;
    wanted = d.wanted;
    deep = d.deep;
    alive = λ m le deep z f. no-read m _ (there _ (d.starts z f)) ∙ d.alive m le deep z f;
    starts = λ z f. inr (d.starts z f);
  }

  or-sound : (i : List S) (a : A) (j : List S) → Chosen i (Ok (a, j)) → (Or R T).reads i a j
  or-sound i a j (inl h) = inl (one.sound i a j h.1)
  or-sound i a j (inr h) = inr (other.sound i a j h.1)

  or-complete : (i : List S) (a : A) (j : List S) → (Or R T).reads i a j → F a j → either n i ≡ Ok (a, j)
  or-complete i a j (inl h) f = yes-read n i (here i (one.first i a j h f)) ∙ one.complete i a j h f
  or-complete i a j (inr h) f = no-read n i (there i (other.first i a j h f)) ∙ other.complete i a j h f

  or-first : (i : List S) (a : A) (j : List S) → (Or R T).reads i a j → F a j → Begins i
  or-first i a j (inl h) f = inl (one.first i a j h f)
  or-first i a j (inr h) f = inr (other.first i a j h f)

  or-met : (i : List S) (x : X) (k : ℕ) → Chosen i (Err (Fault x k)) → (Or R T).meets i x k
  or-met i x k (inl h) = inl (one.met i x k h.1)
  or-met i x k (inr h) = inr (other.met i x k h.1)

  or-meets : (i : List S) (x : X) (k : ℕ) → (Or R T).meets i x k → (either n i ≡ Err (Fault x k)) × Begins i × (k ≤ length i)
  or-meets i x k (inl h) = let d = one.meets i x k h in (yes-read n i (here i d.1) ∙ d.0, inl d.1, d.2)
  or-meets i x k (inr h) = let d = other.meets i x k h in (no-read n i (there i d.1) ∙ d.0, inr d.1, d.2)

  pub or-exact : ExactTo n (Or R T) either F Begins P
  or-exact = record {
    sound = λ i a j e. or-sound i a j (chosen i (Ok (a, j)) e);
    complete = or-complete;
    first = or-first;
    met = λ i x k e. or-met i x k (chosen i (Err (Fault x k)) e);
    meets = or-meets;
    done = λ i a j e. or-done i a j (chosen i (Ok (a, j)) e);
    stuck = λ i k e. or-stuck i k (chosen i (Err (Unexpected k)) e);
    sample = let s = one.sample in record {
      text = s.text;
      made = s.made;
      wanted = s.wanted;
      deep = s.deep;
      alive = λ m le deep z f. yes-read m _ (here _ (s.starts z f)) ∙ s.alive m le deep z f;
      starts = λ z f. inl (s.starts z f);
    };
  }

pub choice : {S X A : Type 0} {n : Mode} {R : Rule S X A} {q : Mode → Reader S X A} {T : Rule S X A} {p : Mode → Reader S X A} {F : A → List S → Type 0} {B B' : List S → Type 0} {P : A → Type 0} (test : S → Bool)
    → ExactTo n R q F B P → ExactTo n T p F B' P → ((i : List S) → B i → heads test i ≡ true) → ((i : List S) → B' i → heads test i ≡ false)
    → ExactTo n (Or R T) (λ m. branch test (q m) (p m)) F (λ i. B i ⊎ B' i) P
choice {n = n} {R = R} {q = q} {T = T} {p = p} {F = F} {B = B} {B' = B'} {P = P} test e e' here there = or-exact n test R q T p F B B' P e e' here there
