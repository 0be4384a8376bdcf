-- Parts and conjuncts by number.
use Rattle.std.specs.Prelude.{◌≡◌, ℕ, List, [], ◌∷◌, Some, slice_get}

-- what has a number keeps it
abbrev pub Keeps : {X : Type 0} → List X → List X → Type 0
Keeps {X} old new = (n : ℕ) (x : X) → slice_get old n ≡ Some x → slice_get new n ≡ Some x

-- these are at these numbers
abbrev pub AreAt : {X : Type 0} → List X → List ℕ → List X → Type 0
AreAt xs [] [] = Unit {0}
AreAt xs [] (y ∷ ys) = ⊥
AreAt xs (n ∷ ns) [] = ⊥
AreAt xs (n ∷ ns) (y ∷ ys) = (slice_get xs n ≡ Some y) × AreAt xs ns ys

-- each list of these is at its numbers
abbrev pub AreEachAt : {X : Type 0} → List X → List (List ℕ) → List (List X) → Type 0
AreEachAt xs [] [] = Unit {0}
AreEachAt xs [] (y ∷ ys) = ⊥
AreEachAt xs (n ∷ ns) [] = ⊥
AreEachAt xs (n ∷ ns) (y ∷ ys) = AreAt xs n y × AreEachAt xs ns ys

-- each list of lists of these is at its numbers
abbrev pub AreAllAt : {X : Type 0} → List X → List (List (List ℕ)) → List (List (List X)) → Type 0
AreAllAt xs [] [] = Unit {0}
AreAllAt xs [] (y ∷ ys) = ⊥
AreAllAt xs (n ∷ ns) [] = ⊥
AreAllAt xs (n ∷ ns) (y ∷ ys) = AreEachAt xs n y × AreAllAt xs ns ys
