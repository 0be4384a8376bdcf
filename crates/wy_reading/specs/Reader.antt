-- Steps of a reader: what it answers with the symbols that are left, or where it stops.
use Rattle.std.specs.Prelude.{◌≡◌, ◌≢◌, ℕ, zero, suc, Bool, List, [], ◌∷◌, ◌++◌, length, Result, Ok, Err, true, false, if◌then◌else◌}
use Rattle.wy_reading.specs.declared.stop.Stop.{Stop}
use Rattle.wy_reading.specs.declared.stop.Stop.TheVariants.{Unexpected, Fault, NoMemory}
use Rattle.wy_reading.specs.Rule.{heads}
use denote.Ref.{Bor}

abbrev pub Outcome : Type 0 → Type 0 → Type 0 → Type 0
Outcome S X A = Result (A × List S) (Stop X)

abbrev pub Reader : Type 0 → Type 0 → Type 0 → Type 0
Reader S X A = List S → Outcome S X A

module _ {S X : Type 0} where
  -- what the function answers after this outcome
  abbrev pub and_then : {A B : Type 0} → Outcome S X A → (A → Reader S X B) → Outcome S X B
  and_then (Ok r) f = f r.0 r.1
  and_then (Err e) f = Err e

  -- the one reader, and then the other
  infixl 10 ◌>>=◌
  abbrev pub ◌>>=◌ : {A B : Type 0} → Reader S X A → (A → Reader S X B) → Reader S X B
  p >>= f = λ i. and_then (p i) f

  -- nothing is read
  abbrev pub pure : {A : Type 0} → A → Reader S X A
  pure a = λ i. Ok (a, i)

  -- no text goes on here
  abbrev pub refuse : {A : Type 0} → Reader S X A
  refuse = λ i. Err (Unexpected (length i))

  -- a symbol that passes the test
  abbrev pub one : (S → Bool) → Reader S X S
  one test [] = refuse []
  one test (s ∷ i) = if test s then Ok (s, i) else refuse (s ∷ i)

  -- the end of the text
  abbrev pub finish : Reader S X (Unit {0})
  finish [] = Ok (tt, [])
  finish (s ∷ i) = refuse (s ∷ i)

  -- the first reader where the first symbol passes the test, else the second
  abbrev pub branch : {A : Type 0} → (S → Bool) → Reader S X A → Reader S X A → Reader S X A
  branch test p q i = if heads test i then p i else q i

  -- turns while the first symbol passes the test, at most so many
  abbrev pub loop : {A : Type 0} → (S → Bool) → (A → Reader S X A) → ℕ → A → Reader S X A
  loop test turn zero a i = Ok (a, i)
  loop test turn (suc f) a i = if heads test i then and_then (turn a i) (loop test turn f) else Ok (a, i)

  -- turns while the first symbol passes the test
  abbrev pub while : {A : Type 0} → (S → Bool) → (A → Reader S X A) → A → Reader S X A
  while test turn a i = loop test turn (length i) a i

  -- the fault x where the first symbol passes the test; else no text goes on
  abbrev pub refused : {A : Type 0} → (S → Bool) → X → Reader S X A
  refused test x i = if heads test i then Err (Fault x (length i)) else refuse i

  -- the fault x, at the first symbol, where what is read doesn't pass the check
  abbrev pub checked : {A : Type 0} → (A → Bool) → X → Reader S X A → Reader S X A
  checked ok x p i = and_then (p i) (λ a j. if ok a then Ok (a, j) else Err (Fault x (length i)))

  -- no text goes on behind what is read and doesn't pass the check
  abbrev pub only : {A : Type 0} → (A → Bool) → Reader S X A → Reader S X A
  only ok p i = and_then (p i) (λ a j. if ok a then Ok (a, j) else refuse j)

  -- no text goes on where the first symbol passes the test
  abbrev pub unless : {A : Type 0} → (S → Bool) → Reader S X A → Reader S X A
  unless test p i = if heads test i then refuse i else p i

  -- the fault x where the first symbol passes the test, else nothing is read
  abbrev pub barred : {A : Type 0} → (S → Bool) → X → A → Reader S X A
  barred test x a = branch test (refused test x) (pure a)

  -- where checks are made a bar, and elsewhere what it keeps out, or nothing
  abbrev pub fenced : {A : Type 0} → Bool → (S → Bool) → X → (A → Reader S X A) → A → Reader S X A
  fenced true test x turn a = barred test x a
  fenced false test x turn a = branch test (turn a) (pure a)

  -- a symbol that passes the test, put behind the word
  abbrev pub letter : (S → Bool) → List S → Reader S X (List S)
  letter part w = one part >>= (λ c. pure (w ++ c ∷ []))

  -- a symbol that passes the first test, and all behind it that pass the second
  abbrev pub word : (S → Bool) → (S → Bool) → Reader S X (List S)
  word start part = one start >>= (λ s. while part (letter part) (s ∷ []))

  -- a symbol that passes the test, which is passed over
  abbrev pub step : (S → Bool) → Unit {0} → Reader S X (Unit {0})
  step test u = one test >>= (λ _. pure tt)

  -- all symbols that pass the test, up to the first that doesn't
  abbrev pub skip : (S → Bool) → Reader S X (Unit {0})
  skip test = while test (step test) tt

  -- these symbols
  abbrev pub spelled : (S → S → Bool) → List S → Reader S X (Unit {0})
  spelled same [] = pure tt
  spelled same (s ∷ text) = one (same s) >>= (λ _. spelled same text)

  -- the reader, and the end of the text behind it
  abbrev pub whole : {A : Type 0} → Reader S X A → Reader S X A
  whole p = p >>= (λ a. finish >>= (λ _. pure a))

  -- what a call may answer: what is wanted, or that memory ran out
  abbrev pub Reads : {A : Type 0} → Outcome S X A → Result (A × Bor (List S)) (Stop X) → Type 0
  Reads wanted (Ok r) = wanted ≡ Ok (r.0, r.1.now)
  Reads wanted (Err e) = e ≢ NoMemory → wanted ≡ Err e

  -- likewise, where what is read is a part of the text
  abbrev pub ReadsPart : Outcome S X (List S) → Result (Bor (List S) × Bor (List S)) (Stop X) → Type 0
  ReadsPart wanted (Ok r) = wanted ≡ Ok (r.0.now, r.1.now)
  ReadsPart wanted (Err e) = e ≢ NoMemory → wanted ≡ Err e
