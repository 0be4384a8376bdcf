-- What is left behind a reader is no more than what it was given, and less where it takes a token.
use Rattle.std.proofs.Common.{◌≡◌, ℕ, zero, suc, ◌<◌, ◌≤◌, Bool, true, false, true≢false, cond, List, [], ◌∷◌, ◌++◌, length, Ok, Err, refl, sym, ap, arith, length-append, inl, inr, ◌⊎◌}
use Rattle.wy_reading.specs.Mode.{Mode}
use Rattle.wy_reading.specs.Rule.{heads}
use Rattle.wy_reading.specs.declared.stop.Stop.TheVariants.{Unexpected, Fault}
use Rattle.wy_reading.specs.Reader.{◌>>=◌, Outcome, and_then, pure, one, branch, loop, while, refused, unless}
use Rattle.wy_reading.proofs.Exactness.{Exact, Any, Passes, same_mode}
use Rattle.wy_reading.proofs.Outcomes.{and_then-ok, ok-parts, if-cases}
use Rattle.wy_lex.specs.declared.token.Token.{Token}
use Rattle.wy_parse_grammar.specs.declared.fault.Kind.{Kind}
use Rattle.wy_parse_grammar.specs.Sorts.{is, NAME}
use Rattle.wy_parse_grammar.specs.Steps.{R, Q, mark, name}

abbrev pub Shrinks : {A : Type 0} → Q A → Type 0
Shrinks {A} q = (i : List Token) (a : A) (j : List Token) → q i ≡ Ok (a, j) → length j ≤ length i

abbrev pub Eats : {A : Type 0} → Q A → Type 0
Eats {A} q = (i : List Token) (a : A) (j : List Token) → q i ≡ Ok (a, j) → length j < length i

pub eats-shrinks : {A : Type 0} (q : Q A) → Eats q → Shrinks q
eats-shrinks q e i a j h = omega (arith, e i a j h)

pub pure-shrinks : {A : Type 0} (b : A) → Shrinks (pure b)
pure-shrinks b i a j h = omega (arith, ap length (ok-parts b a i j h).1)

pub one-eats : (test : Token → Bool) → Eats (one test)
one-eats test [] a j h = absurd (cc)
one-eats test (s ∷ i) a j h = by (if-cases (test s) _ _ _ h)
  where
    by : ((test s ≡ true) × (let r : Q Token = λ x. Ok (s, i) in r [] ≡ Ok (a, j))) ⊎ ((test s ≡ false) × (let r : Q Token = λ x. Err (Unexpected (length (s ∷ i))) in r [] ≡ Ok (a, j))) → length j < length (s ∷ i)
    by (inl d) = omega (arith, ap length (ok-parts s a i j d.1).1)
    by (inr d) = absurd (cc (d.1))

pub then-shrinks : {A B : Type 0} (p : Q A) (f : A → Q B) → Shrinks p → ((a : A) → Shrinks (f a)) → Shrinks (p >>= f)
then-shrinks p f one two i b k h =
    let y = and_then-ok (p i) f (b, k) h in
    omega (arith, one i y.0.0 y.0.1 y.1, two y.0.0 y.0.1 b k y.2)

pub then-eats : {A B : Type 0} (p : Q A) (f : A → Q B) → Eats p → ((a : A) → Shrinks (f a)) → Eats (p >>= f)
then-eats p f one two i b k h =
    let y = and_then-ok (p i) f (b, k) h in
    omega (arith, one i y.0.0 y.0.1 y.1, two y.0.0 y.0.1 b k y.2)

pub branch-shrinks : {A : Type 0} (test : Token → Bool) (p q : Q A) → Shrinks p → Shrinks q → Shrinks (branch test p q)
branch-shrinks test p q one two i a j h = by (if-cases (heads test i) (p i) (q i) (Ok (a, j)) h)
  where
    by : ((heads test i ≡ true) × (p i ≡ Ok (a, j))) ⊎ ((heads test i ≡ false) × (q i ≡ Ok (a, j))) → length j ≤ length i
    by (inl d) = one i a j d.1
    by (inr d) = two i a j d.1

pub branch-eats : {A : Type 0} (test : Token → Bool) (p q : Q A) → Eats p → Eats q → Eats (branch test p q)
branch-eats test p q one two i a j h = by (if-cases (heads test i) (p i) (q i) (Ok (a, j)) h)
  where
    by : ((heads test i ≡ true) × (p i ≡ Ok (a, j))) ⊎ ((heads test i ≡ false) × (q i ≡ Ok (a, j))) → length j < length i
    by (inl d) = one i a j d.1
    by (inr d) = two i a j d.1

pub refused-eats : {A : Type 0} (test : Token → Bool) (x : Kind) → Eats {A = A} (refused test x)
refused-eats {A} test x i a j h = by (if-cases (heads test i) _ _ _ h)
  where
    by : ((heads test i ≡ true) × (let r : Q A = λ k. Err (Fault x (length i)) in r [] ≡ Ok (a, j))) ⊎ ((heads test i ≡ false) × (let r : Q A = λ k. Err (Unexpected (length i)) in r [] ≡ Ok (a, j))) → length j < length i
    by (inl d) = absurd (cc (d.1))
    by (inr d) = absurd (cc (d.1))

pub unless-eats : {A : Type 0} (test : Token → Bool) (q : Q A) → Eats q → Eats (unless test q)
unless-eats {A} test q e i a j h = by (if-cases (heads test i) _ _ _ h)
  where
    by : ((heads test i ≡ true) × (let r : Q A = λ k. Err (Unexpected (length i)) in r [] ≡ Ok (a, j))) ⊎ ((heads test i ≡ false) × (q i ≡ Ok (a, j))) → length j < length i
    by (inl d) = absurd (cc (d.1))
    by (inr d) = e i a j d.1

module _ {A : Type 0} (test : Token → Bool) (turn : A → Q A) (each : (a : A) → Shrinks (turn a)) where
  pub loop-shrinks : (f : ℕ) (a : A) → Shrinks (loop test turn f a)
  loop-shrinks zero a i b j h = omega (arith, ap length (ok-parts a b i j h).1)
  loop-shrinks (suc f) a i b j h = by (λ c k e. loop-shrinks f c k b j e) (if-cases (heads test i) _ _ _ h)
    where
      by : ((c : A) (k : List Token) → loop test turn f c k ≡ Ok (b, j) → length j ≤ length k)
          → ((heads test i ≡ true) × (and_then (turn a i) (loop test turn f) ≡ Ok (b, j))) ⊎ ((heads test i ≡ false) × (let r : Outcome Token Kind A = Ok (a, i) in r ≡ Ok (b, j))) → length j ≤ length i
      by ih (inl d) = let y = and_then-ok (turn a i) (loop test turn f) (b, j) d.1 in omega (arith, each a i y.0.0 y.0.1 y.1, ih y.0.0 y.0.1 y.2)
      by ih (inr d) = omega (arith, ap length (ok-parts a b i j d.1).1)

  pub while-shrinks : (a : A) → Shrinks (while test turn a)
  while-shrinks a i b j h = loop-shrinks (length i) a i b j h

-- a loop whose turns take a token needs no more turns than there are tokens
module _ {A : Type 0} (test : Token → Bool) (turn : A → Q A) (each : (a : A) → Eats (turn a)) where
  pub loop-enough : (f g : ℕ) (a : A) (i : List Token) → length i ≤ f → length i ≤ g → loop test turn f a i ≡ loop test turn g a i
  loop-enough zero zero a i le lt = refl
  loop-enough zero (suc g) a [] le lt = refl
  loop-enough zero (suc g) a (s ∷ i) le lt = absurd (omega (arith, le))
  loop-enough (suc f) zero a [] le lt = refl
  loop-enough (suc f) zero a (s ∷ i) le lt = absurd (omega (arith, lt))
  loop-enough (suc f) (suc g) a i le lt = by (λ b j. loop-enough f g b j) (turn a i) refl
    where
      by : ((b : A) (j : List Token) → length j ≤ f → length j ≤ g → loop test turn f b j ≡ loop test turn g b j)
          → (r : Outcome Token Kind A) → turn a i ≡ r → loop test turn (suc f) a i ≡ loop test turn (suc g) a i
      by ih (Ok y) e = rw e (ap (λ z. cond (heads test i) z (Ok (a, i))) (ih y.0 y.1 (omega (arith, each a i y.0 y.1 e, le)) (omega (arith, each a i y.0 y.1 e, lt))))
      by ih (Err x) e = rw e refl

  -- the first turn, and the others
  pub while-turn : (a : A) (i : List Token) → heads test i ≡ true → while test turn a i ≡ and_then (turn a i) (while test turn)
  while-turn a [] h = absurd (true≢false (sym h))
  while-turn a (s ∷ i) h = rw h (by (turn a (s ∷ i)) refl)
    where
      by : (r : Outcome Token Kind A) → turn a (s ∷ i) ≡ r → and_then (turn a (s ∷ i)) (loop test turn (length i)) ≡ and_then (turn a (s ∷ i)) (while test turn)
      by (Ok y) e = rw e (loop-enough (length i) (length y.1) y.0 y.1 (let h = each a (s ∷ i) y.0 y.1 e in omega (arith, h)) (omega arith))
      by (Err x) e = rw e refl

-- what is read exactly
pub exact-shrinks : {A : Type 0} {n : Mode} {rule : R A} {q : Mode → Q A} {F B : List Token → Type 0} → Exact n rule q F B → Shrinks (q n)
exact-shrinks e i a j h = let d = e.done i a j h in omega (arith, ap length d.cut, length-append d.front j)

pub exact-eats : {A : Type 0} {n : Mode} {rule : R A} {q : Mode → Q A} {test : Token → Bool} → Exact n rule q Any (Passes test) → Eats (q n)
exact-eats {A} {n} {rule} {q} {test} e i a j h = let d = e.done i a j h in by d.front d.cut (λ l. d.again n (same_mode n) l (inr tt))
  where
    by : (front : List Token) → i ≡ front ++ j → ((l : List Token) → q n (front ++ l) ≡ Ok (a, l)) → length j < length i
    by [] cut again = absurd (true≢false (sym (e.first [] a [] (e.sound [] a [] (again [])) tt)))
    by (s ∷ front) cut again = omega (arith, ap length cut, length-append front j)

-- ---- single tokens

pub mark-eats : (c : ℕ) → Eats (mark c)
unfolding mark
mark-eats c = then-eats (one (is c)) (λ s. pure s.at) (one-eats (is c)) (λ s. pure-shrinks s.at)

pub mark-shrinks : (c : ℕ) → Shrinks (mark c)
mark-shrinks c = eats-shrinks (mark c) (mark-eats c)

pub mark-lacks : (c : ℕ) (i : List Token) → heads (is c) i ≡ false → mark c i ≡ Err (Unexpected (length i))
unfolding mark
mark-lacks c [] h = refl
mark-lacks c (s ∷ i) h = rw h refl

pub name-shrinks : Shrinks name
unfolding name
name-shrinks = eats-shrinks _ (then-eats (one (is NAME)) _ (one-eats (is NAME)) (λ s. pure-shrinks _))
