-- Outcomes of readers, and first symbols.
use Rattle.std.proofs.Common.{◌≡◌, Bool, true, false, cond, List, [], ◌∷◌, ◌++◌, Ok, Err, ◌⊎◌, inl, inr, refl, ap}
use Rattle.wy_reading.specs.declared.stop.Stop.{Stop}
use Rattle.wy_reading.specs.Rule.{heads}
use Rattle.wy_reading.specs.Reader.{Reader, Outcome, and_then}
use Rattle.wy_reading.proofs.Exactness.{SameHead}

-- ---- equations of outcomes

pub and_then-ok : {S X A B : Type 0} (r : Outcome S X A) (f : A → Reader S X B) (x : B × List S) → and_then r f ≡ Ok x → (y : A × List S) × (r ≡ Ok y) × (f y.0 y.1 ≡ Ok x)
and_then-ok (Ok y) f x e = (y, refl, e)
and_then-ok (Err z) f x e = absurd (cc)

pub and_then-err : {S X A B : Type 0} (r : Outcome S X A) (f : A → Reader S X B) (x : Stop X) → and_then r f ≡ Err x → (r ≡ Err x) ⊎ ((y : A × List S) × (r ≡ Ok y) × (f y.0 y.1 ≡ Err x))
and_then-err (Ok y) f x e = inr (y, refl, e)
and_then-err (Err z) f x e = inl (let same : z ≡ x = cc in ap Err same)

pub ok-parts : {S X A : Type 0} (a b : A) (i j : List S) → (let r : Outcome S X A = Ok (a, i) in r ≡ Ok (b, j)) → (a ≡ b) × (i ≡ j)
ok-parts {S} {X} {A} a b i j e =
    let same : (let x : A × List S = (a, i) in x ≡ (b, j)) = cc in
    (ap (λ (x : A × List S). x.0) same, ap (λ (x : A × List S). x.1) same)

pub if-cases : {A : Type 0} (b : Bool) (x y z : A) → cond b x y ≡ z → ((b ≡ true) × (x ≡ z)) ⊎ ((b ≡ false) × (y ≡ z))
if-cases true x y z e = inl (refl, e)
if-cases false x y z e = inr (refl, e)

-- ---- the first symbol

pub SameHead-heads : {S : Type 0} (test : S → Bool) (i j : List S) → SameHead i j → heads test i ≡ heads test j
SameHead-heads test [] [] h = refl
SameHead-heads test [] (t ∷ j) h = absurd h
SameHead-heads test (s ∷ i) [] h = absurd h
SameHead-heads test (s ∷ i) (t ∷ j) h = ap test h

-- behind a front the first symbol stays
pub SameHead-behind : {S : Type 0} (front i j : List S) → SameHead i j → SameHead (front ++ i) (front ++ j)
SameHead-behind [] i j h = h
SameHead-behind (s ∷ front) i j h = refl
