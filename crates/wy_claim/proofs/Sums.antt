-- Sums over a list whose items are read by their place.
use Rattle.std.proofs.Common.{◌≡◌, ◌≢◌, ℕ, zero, suc, ◌+◌, ◌≤◌, List, [], ◌∷◌, set, sum_by, refl, sym, ap, arith}
use Rattle.std.proofs.lemmas.List.Sums.{sum_by-cons}
use mathlib.Core.Option.{some, some-injective, some-ne-none}
use lib.ListN.{get_elem?}

module _ {X : Type 0} (f : X → ℕ) where
  pub sum_by-set_at : (xs : List X) (i : ℕ) (v w : X) → get_elem? xs i ≡ some v → sum_by f (set xs i w) + f v ≡ sum_by f xs + f w
  sum_by-set_at [] i v w there = absurd (some-ne-none v (sym there))
  sum_by-set_at (x ∷ xs) zero v w there =
      let same : f x ≡ f v = ap f (some-injective x v there) in
      omega (arith, sum_by-cons f w xs, sum_by-cons f x xs)
  sum_by-set_at (x ∷ xs) (suc i) v w there =
      omega (arith, sum_by-cons f x (set xs i w), sum_by-cons f x xs, sum_by-set_at xs i v w there)

  pub at-le-sum_by : (xs : List X) (i : ℕ) (v : X) → get_elem? xs i ≡ some v → f v ≤ sum_by f xs
  at-le-sum_by [] i v there = absurd (some-ne-none v (sym there))
  at-le-sum_by (x ∷ xs) zero v there =
      let same : f x ≡ f v = ap f (some-injective x v there) in omega (arith, sum_by-cons f x xs)
  at-le-sum_by (x ∷ xs) (suc i) v there = omega (arith, sum_by-cons f x xs, at-le-sum_by xs i v there)

  -- two items are within the sum
  pub two-le-sum_by : (xs : List X) (i j : ℕ) (v w : X) → get_elem? xs i ≡ some v → get_elem? xs j ≡ some w → j ≢ i → f v + f w ≤ sum_by f xs
  two-le-sum_by [] i j v w there here apart = absurd (some-ne-none v (sym there))
  two-le-sum_by (x ∷ xs) zero zero v w there here apart = absurd (apart refl)
  two-le-sum_by (x ∷ xs) zero (suc j) v w there here apart =
      let same : f x ≡ f v = ap f (some-injective x v there) in
      omega (arith, sum_by-cons f x xs, at-le-sum_by xs j w here)
  two-le-sum_by (x ∷ xs) (suc i) zero v w there here apart =
      let same : f x ≡ f w = ap f (some-injective x w here) in
      omega (arith, sum_by-cons f x xs, at-le-sum_by xs i v there)
  two-le-sum_by (x ∷ xs) (suc i) (suc j) v w there here apart =
      omega (arith, sum_by-cons f x xs, two-le-sum_by xs i j v w there here (λ same. apart (ap suc same)))

module _ {X : Type 0} (f g : X → ℕ) where
  -- the sum of larger terms is larger
  pub sum_by-le-at : (xs : List X) → ((i : ℕ) (v : X) → get_elem? xs i ≡ some v → f v ≤ g v) → sum_by f xs ≤ sum_by g xs
  sum_by-le-at [] larger = omega arith
  sum_by-le-at (x ∷ xs) larger =
      omega (arith, sum_by-cons f x xs, sum_by-cons g x xs, larger zero x refl, sum_by-le-at xs (λ i v there. larger (suc i) v there))

  -- where g adds up to nothing, and f is nothing wherever g is, f adds up to nothing
  pub sum_by-zero_at : (xs : List X) → sum_by g xs ≡ 0 → ((i : ℕ) (v : X) → get_elem? xs i ≡ some v → g v ≡ 0 → f v ≡ 0) → sum_by f xs ≡ 0
  sum_by-zero_at [] none gone = refl
  sum_by-zero_at (x ∷ xs) none gone =
      let parts = sum_by-cons g x xs in
      let first : g x ≡ 0 = omega arith in
      let rest : sum_by g xs ≡ 0 = omega arith in
      omega (arith, sum_by-cons f x xs, gone zero x refl first, sum_by-zero_at xs rest (λ i v there. gone (suc i) v there))

  -- where one item has all of g, and f is nothing wherever g is, that item has all of f
  pub sum_by-alone : (xs : List X) (i : ℕ) (v : X) → get_elem? xs i ≡ some v → sum_by g xs ≡ g v → ((j : ℕ) (u : X) → get_elem? xs j ≡ some u → g u ≡ 0 → f u ≡ 0) → sum_by f xs ≡ f v
  sum_by-alone [] i v there all gone = absurd (some-ne-none v (sym there))
  sum_by-alone (x ∷ xs) zero v there all gone =
      let parts = sum_by-cons g x xs in
      let same : g x ≡ g v = ap g (some-injective x v there) in
      let rest : sum_by g xs ≡ 0 = omega arith in
      let this : f x ≡ f v = ap f (some-injective x v there) in
      omega (arith, sum_by-cons f x xs, sum_by-zero_at xs rest (λ j u here. gone (suc j) u here))
  sum_by-alone (x ∷ xs) (suc i) v there all gone =
      let parts = sum_by-cons g x xs in
      let most : g v ≤ sum_by g xs = at-le-sum_by g xs i v there in
      let first : g x ≡ 0 = omega arith in
      let rest : sum_by g xs ≡ g v = omega arith in
      omega (arith, sum_by-cons f x xs, gone zero x refl first, sum_by-alone xs i v there rest (λ j u here. gone (suc j) u here))
