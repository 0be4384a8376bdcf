-- A level on which nothing may stand: `Refused`.
use Rattle.std.proofs.Common.{◌≡◌, ℕ, Bool, true, false, cond, List, [], ◌∷◌, length, Ok, Err, ◌⊎◌, inl, inr, refl, sym, ◌∙◌, arith}
use Rattle.wy_reading.specs.declared.stop.Stop.TheVariants.{Unexpected, Fault}
use Rattle.wy_reading.specs.Mode.{Mode}
use Rattle.wy_reading.specs.Rule.{heads, Refused}
use Rattle.wy_reading.specs.Reader.{Reader, Outcome, ◌>>=◌, one, branch}
use Rattle.wy_reading.proofs.Exactness.{Sample, ExactTo, Passes}
use Rattle.wy_reading.proofs.Outcomes.{SameHead-heads}

-- ---- a level on which what the test begins is refused, and nothing else begins a text

module _ {S X A : Type 0} (n : Mode) (test : S → Bool) (x : X) (p : Mode → Reader S X A) (F : List S → Type 0) (P : A → Type 0)
    (declines : (m : Mode) (i : List S) → heads test i ≡ false → p m i ≡ Err (Unexpected (length i)))
    (refuses : (i : List S) → heads test i ≡ true → p n i ≡ Err (Fault x (length i)))
    (sample : Sample n p (λ a. F) (Passes test) P) where
  abbrev Chosen : List S → Outcome S X A → Type 0
  Chosen i r = ((heads test i ≡ true) × (let bad : Outcome S X A = Err (Fault x (length i)) in bad ≡ r)) ⊎ ((heads test i ≡ false) × (let bad : Outcome S X A = Err (Unexpected (length i)) in bad ≡ r))

  choose : (b : Bool) (i : List S) (r : Outcome S X A) → heads test i ≡ b → p n i ≡ r → Chosen i r
  choose true i r h g = inl (h, sym (refuses i h) ∙ g)
  choose false i r h g = inr (h, sym (declines n i h) ∙ g)

  none : (i : List S) (a : A) (j : List S) → Chosen i (Ok (a, j)) → ⊥
  none i a j (inl h) = let bad = h.1 in absurd (cc)
  none i a j (inr h) = let bad = h.1 in absurd (cc)

  closed-met : (i : List S) (y : X) (k : ℕ) → Chosen i (Err (Fault y k)) → (heads test i ≡ true) × (y ≡ x) × (k ≡ length i)
  closed-met i y k (inl h) = let same = h.1 in (h.0, (cc), (cc))
  closed-met i y k (inr h) = let bad = h.1 in absurd (cc)

  closed-stuck : (i : List S) (k : ℕ) → Chosen i (Err (Unexpected k)) → (heads test i ≡ false) × (k ≡ length i)
  closed-stuck i k (inl h) = let bad = h.1 in absurd (cc)
  closed-stuck i k (inr h) = let same = h.1 in (h.0, (cc))

  pub closed : ExactTo n (Refused test x) p (λ a. F) (Passes test) P
  closed = record {
    sound = λ i a j h. absurd (none i a j (choose (heads test i) i _ refl h));
    complete = λ i a j h f. absurd h;
    first = λ i a j h f. absurd h;
    met = λ i y k h. closed-met i y k (choose (heads test i) i _ refl h);
    meets = λ i y k h. (rw (refuses i h.0, h.1, h.2) refl, h.0, omega (arith, h.2));
    done = λ i a j h. absurd (none i a j (choose (heads test i) i _ refl h));
    stuck = λ i k h. let c = closed-stuck i k (choose (heads test i) i _ refl h) in record {
      front = [];
      back = i;
      cut = refl;
      left = c.1;
      again = λ m le j' s. declines m j' (sym (SameHead-heads test i j' s) ∙ c.0);
      ending = sample.text;
      made = sample.made;
      wanted = sample.wanted;
      deep = sample.deep;
      alive = sample.alive;
      starts = sample.starts;
    };
    sample = sample;
  }

-- what a reader declines

abbrev pub Declines : {S X A : Type 0} → (S → Bool) → Reader S X A → Type 0
Declines {S} test p = (i : List S) → heads test i ≡ false → p i ≡ Err (Unexpected (length i))

pub declines-then : {S X A B : Type 0} {test : S → Bool} (p : Reader S X A) (q : A → Reader S X B) → Declines test p → Declines test (p >>= q)
declines-then p q d i h = rw (d i h) refl

pub declines-branch : {S X A : Type 0} {test : S → Bool} (test' : S → Bool) (p q : Reader S X A) → Declines test p → Declines test q → Declines test (branch test' p q)
declines-branch test' p q d e i h = by (heads test' i) (d i h) (e i h)
  where
    by : (b : Bool) → p i ≡ Err (Unexpected (length i)) → q i ≡ Err (Unexpected (length i)) → cond b (p i) (q i) ≡ Err (Unexpected (length i))
    by true a b = a
    by false a b = b

pub declines-one : {S X : Type 0} {test : S → Bool} (test' : S → Bool) → ((i : List S) → heads test i ≡ false → heads test' i ≡ false) → Declines {X = X} test (one test')
declines-one test' n [] h = refl
declines-one test' n (s ∷ i) h = rw (n (s ∷ i) h) refl
