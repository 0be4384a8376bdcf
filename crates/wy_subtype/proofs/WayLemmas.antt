-- Numbers of which all above 16,384 are the same: sums and products.
use Rattle.std.proofs.Common.{◌≡◌, ℕ, zero, suc, ◌<◌, ◌≤◌, ◌+◌, ◌*◌, true, false, refl, sym, ap, ◌∙◌, arith, inl, inr, ◌⊎◌}
use Rattle.std.specs.Prelude.{leb}
use Rattle.std.proofs.lemmas.Bool.Decides.{leb_tells}
use Rattle.std.proofs.Common.{List, ◌∷◌, length, drop, get_or}
use Rattle.std.proofs.lemmas.List.{drop_more}
use Rattle.wy_canon.specs.wy_types.declared.conjuncts.Part.{Part}
use Rattle.wy_canon.specs.wy_types.declared.conjuncts.Atom.{Atom}
use Rattle.wy_canon.specs.wy_types.Asks.{ways_by, ways_count}
use Rattle.wy_subtype.specs.Ways.{cap}

pub cap_few : (n : ℕ) → n ≤ 16384 → cap n ≡ n
cap_few n le = by (leb_tells n 16384)
  where
    by : ((leb n 16384 ≡ true) × (n ≤ 16384)) ⊎ ((leb n 16384 ≡ false) × (16384 < n)) → cap n ≡ n
    by (inl a) = rw (a.0) refl
    by (inr b) = absurd (let lt = b.1 in omega (arith, le, lt))

pub cap_large : (n : ℕ) → 16384 < n → 16385 ≡ cap n
cap_large n gt = by (leb_tells n 16384)
  where
    by : ((leb n 16384 ≡ true) × (n ≤ 16384)) ⊎ ((leb n 16384 ≡ false) × (16384 < n)) → 16385 ≡ cap n
    by (inl a) = absurd (let le = a.1 in omega (arith, gt, le))
    by (inr b) = rw (b.0) refl

pub leb_cap : (n : ℕ) → leb (cap n) 16384 ≡ leb n 16384
leb_cap n = by (leb_tells n 16384)
  where
    by : ((leb n 16384 ≡ true) × (n ≤ 16384)) ⊎ ((leb n 16384 ≡ false) × (16384 < n)) → leb (cap n) 16384 ≡ leb n 16384
    by (inl a) = ap (λ m. leb m 16384) (cap_few n a.1)
    by (inr b) = rw (b.0) refl

cap_as : (m n : ℕ) → 16384 < m → 16384 < n → cap m ≡ cap n
cap_as m n g h = sym (cap_large m g) ∙ cap_large n h

-- a sum, one number capped first
pub cap_sum : (c n r : ℕ) → cap (cap (c + n) + r) ≡ cap (c + (n + r))
cap_sum c n r = by (leb_tells (c + n) 16384)
  where
    again : (c + n) + r ≡ c + (n + r)
    again = omega arith

    by : ((leb (c + n) 16384 ≡ true) × (c + n ≤ 16384)) ⊎ ((leb (c + n) 16384 ≡ false) × (16384 < c + n)) → cap (cap (c + n) + r) ≡ cap (c + (n + r))
    by (inl a) = ap (λ m. cap (m + r)) (cap_few (c + n) a.1) ∙ ap cap again
    by (inr b) =
        let g = b.1 in
        ap (λ m. cap (m + r)) (sym (cap_large (c + n) g)) ∙ cap_as (16385 + r) (c + (n + r)) (omega arith) (omega (arith, g))

pub cap_sum_zero : (c : ℕ) → cap (c + 0) ≡ cap c
cap_sum_zero c = ap cap (let e : c + 0 ≡ c = omega arith in e)

at_least : (m n : ℕ) → 16384 < m → 0 < n → 16384 < m * n
at_least m zero g h = absurd (omega (arith, h))
at_least m (suc n) g h =
    let e : m * suc n ≡ m + m * n = grind arith in
    omega (arith, e, g)

-- a product, numbers capped first
pub cap_product_left : (m r : ℕ) → cap (cap m * r) ≡ cap (m * r)
cap_product_left m r = by (leb_tells m 16384)
  where
    large : (r : ℕ) → 16384 < m → cap (16385 * r) ≡ cap (m * r)
    large zero g = ap cap (let e : 16385 * 0 ≡ m * 0 = grind arith in e)
    large (suc n) g = cap_as (16385 * suc n) (m * suc n) (at_least 16385 (suc n) (omega arith) (omega arith)) (at_least m (suc n) g (omega arith))

    by : ((leb m 16384 ≡ true) × (m ≤ 16384)) ⊎ ((leb m 16384 ≡ false) × (16384 < m)) → cap (cap m * r) ≡ cap (m * r)
    by (inl a) = ap (λ x. cap (x * r)) (cap_few m a.1)
    by (inr b) = ap (λ x. cap (x * r)) (sym (cap_large m b.1)) ∙ large r b.1

turned : (m r : ℕ) → m * r ≡ r * m
turned m r = grind arith

pub cap_product_right : (m r : ℕ) → cap (m * cap r) ≡ cap (m * r)
cap_product_right m r = ap cap (turned m (cap r)) ∙ cap_product_left r m ∙ ap cap (turned r m)

pub cap_product : (c w r : ℕ) → cap (cap (c * cap w) * r) ≡ cap (c * (w * r))
cap_product c w r = ap (λ x. cap (x * r)) (cap_product_right c w) ∙ cap_product_left (c * w) r ∙ ap cap again
  where
    again : (c * w) * r ≡ c * (w * r)
    again = grind arith

pub cap_product_one : (c : ℕ) → cap (c * 1) ≡ cap c
cap_product_one c = ap cap (let e : c * 1 ≡ c = grind arith in e)

-- a turn of the loop over the negatives
pub ways_turn : (fs : List (List ℕ × Part ℕ)) (ns : List (Atom ℕ)) (i : ℕ) (a : Atom ℕ) (c d w : ℕ) → i < length ns → a ≡ get_or ns i a → w ≡ cap (ways_by fs a) → d ≡ cap (c * w)
    → cap (c * ways_count fs (drop i ns)) ≡ cap (ways_count fs ns) → cap (d * ways_count fs (drop (i + 1) ns)) ≡ cap (ways_count fs ns)
ways_turn fs ns i a c d w lt at is made so_far =
    ap (λ x. cap (x * ways_count fs (drop (i + 1) ns))) (made ∙ ap (λ y. cap (c * y)) is)
    ∙ cap_product c (ways_by fs a) (ways_count fs (drop (i + 1) ns))
    ∙ sym (ap (λ (xs : List (Atom ℕ)). cap (c * ways_count fs xs)) (drop_more ns i a lt ∙ ap (λ (x : Atom ℕ). x ∷ drop (i + 1) ns) (sym at)))
    ∙ so_far
