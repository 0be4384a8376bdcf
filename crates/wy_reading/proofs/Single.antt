-- Nothing, one symbol, and the end: `Pure`, `One`, `Finish`.
use Rattle.std.proofs.Common.{◌≡◌, ℕ, Bool, true, false, List, [], ◌∷◌, length, Ok, Err, ◌⊎◌, inl, inr, refl, sym, ap, ◌∙◌, subst}
use Rattle.std.specs.Bool.{⊤}
use Rattle.wy_reading.specs.declared.stop.Stop.TheVariants.{Unexpected, Fault}
use Rattle.wy_reading.specs.Mode.{Mode}
use Rattle.wy_reading.specs.Rule.{heads, One, Finish, Pure}
use Rattle.wy_reading.specs.Reader.{Reader, Outcome, pure, refuse, one, finish}
use Rattle.wy_reading.proofs.Exactness.{SameHead, ExactTo, Exact, Passes, AtEnd}
use Rattle.wy_reading.proofs.Outcomes.{ok-parts, if-cases, SameHead-heads}

-- ---- nothing

module _ {S X A : Type 0} (n : Mode) (a : A) (F : A → List S → Type 0) (P : A → Type 0) (wanted : P a) where
  abbrev none_read : Mode → Reader S X A
  none_read m = pure a

  pub pure-exact : ExactTo n (Pure a) none_read F (F a) P
  pure-exact = record {
    sound = λ i b j e. let h = ok-parts a b i j e in (sym h.0, h.1);
    complete = λ i b j h f. let e = h.0 in let e' = h.1 in cc;
    first = λ i b j h f. let e = h.0 in subst (F a) (sym h.1) (subst (λ c. F c j) e f);
    met = λ i x k e. absurd (cc);
    meets = λ i x k h. absurd h;
    done = λ i b j e. let h = ok-parts a b i j e in record {
      front = [];
      cut = h.1;
      again = λ m le j' g. let same = h.0 in cc;
    };
    stuck = λ i k e. absurd (cc);
    sample = record { text = []; made = a; wanted = wanted; deep = 0; alive = λ m le deep z f. refl; starts = λ z f. f };
  }

-- ---- one symbol

module _ {S X : Type 0} (n : Mode) (test : S → Bool) (F : S → List S → Type 0) (some : S) (good : test some ≡ true) (P : S → Type 0) (wanted : P some) where
  abbrev one_read : Mode → Reader S X S
  one_read m = one test

  abbrev Tested : S → List S → Outcome S X S → Type 0
  Tested t i r = ((test t ≡ true) × (let good : Outcome S X S = Ok (t, i) in good ≡ r)) ⊎ ((test t ≡ false) × (let bad : Outcome S X S = refuse (t ∷ i) in bad ≡ r))

  tested : (t : S) (i : List S) (r : Outcome S X S) → one test (t ∷ i) ≡ r → Tested t i r
  tested t i r e = if-cases (test t) _ _ _ e

  pub one-sound : (i : List S) (s : S) (j : List S) → (let r : Outcome S X S = one test i in r ≡ Ok (s, j)) → (test s ≡ true) × (i ≡ s ∷ j)
  one-sound [] s j e = absurd (cc)
  one-sound (t ∷ i) s j e = by (tested t i (Ok (s, j)) e)
    where
      by : Tested t i (Ok (s, j)) → (test s ≡ true) × (t ∷ i ≡ s ∷ j)
      by (inl d) = let h = ok-parts t s i j d.1 in (ap test (sym h.0) ∙ d.0, let e = h.0 in let e' = h.1 in cc)
      by (inr d) = let bad = d.1 in absurd (cc)

  one-met : (i : List S) (x : X) (k : ℕ) → (let r : Outcome S X S = one test i in r ≡ Err (Fault x k)) → ⊥
  one-met [] x k e = absurd (cc)
  one-met (t ∷ i) x k e = by (tested t i (Err (Fault x k)) e)
    where
      by : Tested t i (Err (Fault x k)) → ⊥
      by (inl d) = let bad = d.1 in absurd (cc)
      by (inr d) = let bad = d.1 in absurd (cc)

  pub one-fails : (i : List S) (k : ℕ) → (let r : Outcome S X S = one test i in r ≡ Err (Unexpected k)) → (k ≡ length i) × (heads test i ≡ false)
  one-fails [] k e = (cc, refl)
  one-fails (t ∷ i) k e = by (tested t i (Err (Unexpected k)) e)
    where
      by : Tested t i (Err (Unexpected k)) → (k ≡ length (t ∷ i)) × (test t ≡ false)
      by (inl d) = let bad = d.1 in absurd (cc)
      by (inr d) = let h = d.1 in (cc, d.0)

  pub one-refuses : (j : List S) → heads test j ≡ false → (let r : Outcome S X S = one test j in r ≡ Err (Unexpected (length j)))
  one-refuses [] h = refl
  one-refuses (t ∷ j) h = rw h refl

  pub one-exact : ExactTo n (One test) one_read F (Passes test) P
  one-exact = record {
    sound = one-sound;
    complete = λ i s j h f. rw (h.1, h.0) refl;
    first = λ i s j h f. rw h.1 h.0;
    met = one-met;
    meets = λ i x k h. absurd h;
    done = λ i s j e. let h = one-sound i s j e in record {
      front = s ∷ [];
      cut = h.1;
      again = λ m le j' g. rw h.0 refl;
    };
    stuck = λ i k e. let h = one-fails i k e in record {
      front = [];
      back = i;
      cut = refl;
      left = h.0;
      again = λ m le j' s. one-refuses j' (sym (SameHead-heads test i j' s) ∙ h.1);
      ending = some ∷ [];
      made = some;
      wanted = wanted;
      deep = 0;
      alive = λ m le deep z f. rw good refl;
      starts = λ z f. good;
    };
    sample = record {
      text = some ∷ [];
      made = some;
      wanted = wanted;
      deep = 0;
      alive = λ m le deep z f. rw good refl;
      starts = λ z f. good;
    };
  }

-- ---- no symbol left

finish-sound : {S X : Type 0} (i : List S) (x : Unit {0}) (j : List S) → (let r : Outcome S X (Unit {0}) = finish i in r ≡ Ok (x, j)) → (i ≡ []) × (j ≡ [])
finish-sound [] x j e = (refl, sym (ok-parts tt x [] j e).1)
finish-sound (s ∷ i) x j e = absurd (cc)

finish-met : {S X : Type 0} (i : List S) (x : X) (k : ℕ) → (let r : Outcome S X (Unit {0}) = finish i in r ≡ Err (Fault x k)) → ⊥
finish-met [] x k e = absurd (cc)
finish-met (s ∷ i) x k e = absurd (cc)

finish-fails : {S X : Type 0} (i j : List S) (k : ℕ) → (let r : Outcome S X (Unit {0}) = finish i in r ≡ Err (Unexpected k)) → (k ≡ length i) × (SameHead i j → (let r : Outcome S X (Unit {0}) = finish j in r ≡ Err (Unexpected (length j))))
finish-fails [] j k e = absurd (cc)
finish-fails (s ∷ i) [] k e = (cc, λ h. absurd h)
finish-fails (s ∷ i) (t ∷ j) k e = (cc, λ h. refl)

pub finish-exact : {S X : Type 0} (n : Mode) → ExactTo {S = S} {X = X} n Finish (λ m. finish) (λ x. AtEnd) AtEnd (λ x. ⊤)
finish-exact {S} {X} n = record {
  sound = finish-sound;
  complete = λ i x j h f. rw (h.0, h.1) refl;
  first = λ i x j h f. h.0;
  met = finish-met;
  meets = λ i x k h. absurd h;
  done = λ i x j e. let h = finish-sound i x j e in record {
    front = [];
    cut = h.0 ∙ sym h.1;
    again = λ m le j' g. let over : j' ≡ [] = elim g [ inl s ↦ ended j j' h.1 s | inr f ↦ f ] in rw over refl;
  };
  stuck = λ i k e. record {
    front = [];
    back = i;
    cut = refl;
    left = (finish-fails i i k e).0;
    again = λ m le j' s. (finish-fails i j' k e).1 s;
    ending = [];
    made = tt;
    wanted = tt;
    deep = 0;
    alive = λ m le deep z f. rw f refl;
    starts = λ z f. f;
  };
  sample = record { text = []; made = tt; wanted = tt; deep = 0; alive = λ m le deep z f. rw f refl; starts = λ z f. f };
}
  where
    ended : (j j' : List S) → j ≡ [] → SameHead j j' → j' ≡ []
    ended [] [] e s = refl
    ended [] (t ∷ j') e s = absurd s
    ended (t ∷ j) j' e s = absurd (cc)

-- nothing is read
pub nothing : {S X A : Type 0} {n : Mode} {F : List S → Type 0} (a : A) → Exact {S = S} {X = X} n (Pure a) (λ m. pure a) F F
nothing {n = n} {F = F} a = pure-exact n a (λ b. F) (λ b. ⊤) tt

pub nothing_on : {S X A : Type 0} {n : Mode} {F : A → List S → Type 0} (a : A) → ExactTo {S = S} {X = X} n (Pure a) (λ m. pure a) F (F a) (λ b. ⊤)
nothing_on {n = n} {F = F} a = pure-exact n a F (λ b. ⊤) tt

-- a symbol; some symbol that passes the test is given
pub symbol : {S X : Type 0} {n : Mode} {F : List S → Type 0} (test : S → Bool) (some : S) → test some ≡ true → Exact {S = S} {X = X} n (One test) (λ m. one test) F (Passes test)
symbol {n = n} {F = F} test some good = one-exact n test (λ b. F) some good (λ b. ⊤) tt
