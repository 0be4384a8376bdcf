-- Sets of numbers below a count, each step from one to the next the same: after as many steps as the count, nothing comes in any more.
use Rattle.std.proofs.Common.{◌≡◌, ◌+◌, ◌-◌, ◌<◌, ◌≤◌, ◌⊎◌, inl, inr, ℕ, zero, suc, Bool, true, false, refl, sym, ap, subst, arith}
use Rattle.std.proofs.lemmas.Bool.{cases_lt}
use Rattle.wy_lemmas.proofs.Choices.{less_more as below_or_last, one_if, one_within, how_many, at_most_all, as_many}

-- the set of each step; what comes in at a step goes by what was in before, and nothing from the count on comes in
pub record Grows (S : ℕ → ℕ → Bool) (count : ℕ) : Type 0 where
  pub empty : (n : ℕ) → S 0 n ≡ true → ⊥
  pub steps : (i j : ℕ) → ((n : ℕ) → S i n ≡ true → S j n ≡ true) → (n : ℕ) → S (suc i) n ≡ true → S (suc j) n ≡ true
  pub within : (j n : ℕ) → S j n ≡ true → n < count

-- one set is in another: nothing more is in this one, or it has more numbers
compared : (p q : ℕ → Bool) → ((n : ℕ) → p n ≡ true → q n ≡ true) → (k : ℕ) → ((n : ℕ) → n < k → q n ≡ true → p n ≡ true) ⊎ (how_many p k < how_many q k)
compared p q up zero = inl (λ n lt h. absurd (omega (arith, lt)))
compared p q up (suc k) = by (p k) (q k) refl refl (compared p q up k)
  where
    more : (a b : Bool) → p k ≡ a → q k ≡ b → (b ≡ true → a ≡ true) → ((n : ℕ) → n < k → q n ≡ true → p n ≡ true) → (n : ℕ) → n < suc k → q n ≡ true → p n ≡ true
    more a b pa qb last f n lt h = elim (below_or_last n k lt) as (λ _. p n ≡ true) [
      | inl less ↦ f n less h
      | inr is ↦ subst (λ (m : ℕ). p m ≡ true) (sym is) (let here : q k ≡ true = subst (λ (m : ℕ). q m ≡ true) is h in let e : b ≡ true = cc in let g = last e in cc)
    ]

    by : (a b : Bool) → p k ≡ a → q k ≡ b → ((n : ℕ) → n < k → q n ≡ true → p n ≡ true) ⊎ (how_many p k < how_many q k)
        → ((n : ℕ) → n < suc k → q n ≡ true → p n ≡ true) ⊎ (one_if (p k) + how_many p k < one_if (q k) + how_many q k)
    by true b pa qb (inl f) = inl (more true b pa qb (λ _. refl) f)
    by false false pa qb (inl f) = inl (more false false pa qb (λ e. e) f)
    by false true pa qb (inl f) = inr (let h = as_many p q up k in let x : one_if (p k) ≡ 0 = ap one_if pa in let y : one_if (q k) ≡ 1 = ap one_if qb in omega (arith, h, x, y))
    by a b pa qb (inr less) = inr (let l = one_within (p k) (q k) (up k) in omega (arith, less, l))

-- ---- steps

pub grows_up : (S : ℕ → ℕ → Bool) (count : ℕ) → Grows S count → (j n : ℕ) → S j n ≡ true → S (suc j) n ≡ true
grows_up S count g zero n h = absurd (g.empty n h)
grows_up S count g (suc j) n h = g.steps j (suc j) (λ m k. grows_up S count g j m k) n h

up_by : (S : ℕ → ℕ → Bool) (count : ℕ) → Grows S count → (i j n : ℕ) → S i n ≡ true → S (j + i) n ≡ true
up_by S count g i zero n h = let e : i ≡ 0 + i = omega arith in subst (λ (x : ℕ). S x n ≡ true) e h
up_by S count g i (suc j) n h =
    let e : suc (j + i) ≡ suc j + i = omega arith in
    subst (λ (x : ℕ). S x n ≡ true) e (grows_up S count g (j + i) n (up_by S count g i j n h))

-- nothing comes in at this step, or so many are in behind it
settled_or_more : (S : ℕ → ℕ → Bool) (count : ℕ) → Grows S count → (j : ℕ) → ((n : ℕ) → S (suc j) n ≡ true → S j n ≡ true) ⊎ (suc j ≤ how_many (S (suc j)) count)
settled_or_more S count g zero = by (compared (S 0) (S 1) (grows_up S count g 0) count)
  where
    by : ((n : ℕ) → n < count → S 1 n ≡ true → S 0 n ≡ true) ⊎ (how_many (S 0) count < how_many (S 1) count) → ((n : ℕ) → S 1 n ≡ true → S 0 n ≡ true) ⊎ (1 ≤ how_many (S 1) count)
    by (inl f) = inl (λ n h. f n (g.within 1 n h) h)
    by (inr less) = inr (omega (arith, less))
settled_or_more S count g (suc j) = by (settled_or_more S count g j) (compared (S (suc j)) (S (suc (suc j))) (grows_up S count g (suc j)) count)
  where
    by : ((n : ℕ) → S (suc j) n ≡ true → S j n ≡ true) ⊎ (suc j ≤ how_many (S (suc j)) count)
        → ((n : ℕ) → n < count → S (suc (suc j)) n ≡ true → S (suc j) n ≡ true) ⊎ (how_many (S (suc j)) count < how_many (S (suc (suc j))) count)
        → ((n : ℕ) → S (suc (suc j)) n ≡ true → S (suc j) n ≡ true) ⊎ (suc (suc j) ≤ how_many (S (suc (suc j))) count)
    by (inl f) c = inl (g.steps (suc j) j f)
    by (inr many) (inl f) = inl (λ n h. f n (g.within (suc (suc j)) n h) h)
    by (inr many) (inr less) = inr (omega (arith, many, less))

settled : (S : ℕ → ℕ → Bool) (count : ℕ) → Grows S count → (n : ℕ) → S (suc count) n ≡ true → S count n ≡ true
settled S count g = by (settled_or_more S count g count)
  where
    by : ((n : ℕ) → S (suc count) n ≡ true → S count n ≡ true) ⊎ (suc count ≤ how_many (S (suc count)) count) → (n : ℕ) → S (suc count) n ≡ true → S count n ≡ true
    by (inl f) = f
    by (inr many) = λ n h. absurd (let l = at_most_all (S (suc count)) count in omega (arith, many, l))

beyond : (S : ℕ → ℕ → Bool) (count : ℕ) → Grows S count → (i n : ℕ) → S (i + count) n ≡ true → S count n ≡ true
beyond S count g zero n h = let e : 0 + count ≡ count = omega arith in subst (λ (x : ℕ). S x n ≡ true) e h
beyond S count g (suc i) n h =
    let e : suc i + count ≡ suc (i + count) = omega arith in
    let here : S (suc (i + count)) n ≡ true = subst (λ (x : ℕ). S x n ≡ true) e h in
    settled S count g n (g.steps (i + count) count (λ m k. beyond S count g i m k) n here)

-- what comes in at any step is in after as many steps as the count
pub bounded : (S : ℕ → ℕ → Bool) (count : ℕ) → Grows S count → (j n : ℕ) → S j n ≡ true → S count n ≡ true
bounded S count g j n h = elim (cases_lt j count) as (λ _. S count n ≡ true) [
  | inl less ↦ let e : (count - j) + j ≡ count = omega (arith, less) in subst (λ (x : ℕ). S x n ≡ true) e (up_by S count g j (count - j) n h)
  | inr over ↦ let e : j ≡ (j - count) + count = omega (arith, over) in beyond S count g (j - count) n (subst (λ (x : ℕ). S x n ≡ true) e h)
]
