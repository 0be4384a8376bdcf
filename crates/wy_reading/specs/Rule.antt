-- Rules of a grammar over symbols of the type S, with faults of the kinds X.
use Rattle.std.specs.Prelude.{◌≡◌, ◌==◌, if◌then◌else◌, ℕ, Bool, true, false, List, [], ◌∷◌, ◌++◌, ◌⊎◌, length}

-- `reads i a j`: the symbols i begin with a text of the rule, which spells a, and j follows it.
-- `meets i x k`: in i a text of the rule is begun well up to a place where the fault x stands, and k symbols are left there.
pub record Rule (S X A : Type 0) : Type 1 where
  pub reads : List S → A → List S → Type 0
  pub meets : List S → X → ℕ → Type 0

-- the first symbol passes the test; at the end none does
abbrev pub heads : {S : Type 0} → (S → Bool) → List S → Bool
heads test [] = false
heads test (s ∷ i) = test s

-- the number is one of these
abbrev pub among : List ℕ → ℕ → Bool
among [] n = false
among (c ∷ cs) n = if n == c then true else among cs n

-- the check, where checks are made
abbrev pub lax : {A : Type 0} → Bool → (A → Bool) → A → Bool
lax true ok a = ok a
lax false ok a = true

module _ {S X : Type 0} where
  -- a symbol that passes the test
  abbrev pub One : (S → Bool) → Rule S X S
  One test = record {
    reads = λ i s j. (test s ≡ true) × (i ≡ s ∷ j);
    meets = λ i x k. ⊥;
  }

  -- nothing, which spells a
  abbrev pub Pure : {A : Type 0} → A → Rule S X A
  Pure a = record {
    reads = λ i b j. (b ≡ a) × (i ≡ j);
    meets = λ i x k. ⊥;
  }

  -- the end of the text
  abbrev pub Finish : Rule S X (Unit {0})
  Finish = record {
    reads = λ i x j. (i ≡ []) × (j ≡ []);
    meets = λ i x k. ⊥;
  }

  -- the one, and then the other, which may depend on what the one spells
  abbrev pub Then : {A B : Type 0} → Rule S X A → (A → Rule S X B) → Rule S X B
  Then {A} R T = record {
    reads = λ i b k. (a : A) × (j : List S) × R.reads i a j × (T a).reads j b k;
    meets = λ i x k. R.meets i x k ⊎ ((a : A) × (j : List S) × R.reads i a j × (T a).meets j x k);
  }

  -- the one or the other
  abbrev pub Or : {A : Type 0} → Rule S X A → Rule S X A → Rule S X A
  Or R T = record {
    reads = λ i a j. R.reads i a j ⊎ T.reads i a j;
    meets = λ i x k. R.meets i x k ⊎ T.meets i x k;
  }

  -- any number of turns, each of which makes something new of what was made so far
  pub data Turns {A : Type 0} (turn : A → Rule S X A) : A → List S → A → List S → Type 0 where
    stop : {a : A} {i : List S} {t : A} {k : List S} → t ≡ a → i ≡ k → Turns turn a i t k
    more : {a : A} {i : List S} {t : A} {k : List S} (b : A) (j : List S) → (turn a).reads i b j → Turns turn b j t k → Turns turn a i t k

  abbrev pub Loop : {A : Type 0} → (A → Rule S X A) → A → Rule S X A
  Loop {A} turn a = record {
    reads = Turns turn a;
    meets = λ i x k. (b : A) × (j : List S) × Turns turn a i b j × (turn b).meets j x k;
  }

  -- no text; a symbol that passes the test is the fault x
  abbrev pub Refused : {A : Type 0} → (S → Bool) → X → Rule S X A
  Refused test x = record {
    reads = λ i a j. ⊥;
    meets = λ i y k. (heads test i ≡ true) × (y ≡ x) × (k ≡ length i);
  }

  -- the rule, where what is spelled passes the check; what is spelled whole, up to where F holds, and doesn't pass is the fault x, at its first symbol
  abbrev pub Checked : {A : Type 0} → (List S → Type 0) → (A → Bool) → X → Rule S X A → Rule S X A
  Checked {A} F ok x R = record {
    reads = λ i a j. R.reads i a j × (ok a ≡ true);
    meets = λ i y k. R.meets i y k ⊎ ((a : A) × (j : List S) × R.reads i a j × F j × (ok a ≡ false) × (y ≡ x) × (k ≡ length i));
  }

  -- the rule, where what is spelled passes the check; after what doesn't, no text goes on
  abbrev pub Only : {A : Type 0} → (A → Bool) → Rule S X A → Rule S X A
  Only ok R = record {
    reads = λ i a j. R.reads i a j × (ok a ≡ true);
    meets = R.meets;
  }

  -- the rule, where the first symbol doesn't pass the test
  abbrev pub Unless : {A : Type 0} → (S → Bool) → Rule S X A → Rule S X A
  Unless test R = record {
    reads = λ i a j. (heads test i ≡ false) × R.reads i a j;
    meets = λ i x k. (heads test i ≡ false) × R.meets i x k;
  }

  -- nothing, which spells a; but a symbol that passes the test is the fault x
  abbrev pub Barred : {A : Type 0} → (S → Bool) → X → A → Rule S X A
  Barred test x a = Or (Refused test x) (Pure a)

  -- where checks are made a bar, and elsewhere what it keeps out, or nothing
  abbrev pub Fenced : {A : Type 0} → Bool → (S → Bool) → X → (A → Rule S X A) → A → Rule S X A
  Fenced true test x turn a = Barred test x a
  Fenced false test x turn a = Or (turn a) (Pure a)

  -- a symbol that passes the test, put behind the word
  abbrev pub Letter : (S → Bool) → List S → Rule S X (List S)
  Letter part w = Then (One part) (λ c. Pure (w ++ c ∷ []))

  -- a symbol that passes the first test, and any number that pass the second
  abbrev pub Word : (S → Bool) → (S → Bool) → Rule S X (List S)
  Word start part = Then (One start) (λ s. Loop (Letter part) (s ∷ []))

  -- any number of symbols that pass the test
  abbrev pub Skip : (S → Bool) → Rule S X (Unit {0})
  Skip test = Loop (λ u. Then (One test) (λ _. Pure tt)) tt

  -- these symbols
  abbrev pub Spelled : (S → S → Bool) → List S → Rule S X (Unit {0})
  Spelled same [] = Pure tt
  Spelled same (s ∷ text) = Then (One (same s)) (λ _. Spelled same text)

-- the rule, and the end of the text behind it
abbrev pub Whole : {S X A : Type 0} → Rule S X A → Rule S X A
Whole R = Then R (λ a. Then Finish (λ _. Pure a))
