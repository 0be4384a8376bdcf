-- How often a number stands in a list, and how many numbers are of a limit or more.
use Rattle.std.proofs.Common.{◌≡◌, ℕ, zero, suc, ◌+◌, ◌<◌, ◌≤◌, ◌==◌, nat_le, Bool, true, false, cond, true≢false, List, [], ◌∷◌, length, get_or, filter, All, Contains, refl, sym, ap, ◌∙◌, arith, add-zero, zero-add, eq-eqb, ne_eqb, lt-ltb, le-ltb, le-leb, lt_of_not-le}
use Rattle.std.proofs.lemmas.Bool.{lt-leb}
use Rattle.std.proofs.lemmas.List.Sums.{sum_by-cons, get_or-le-sum_by}
use Rattle.std.proofs.lemmas.List.Elements.{Contains-get_or}
use native.Mathlib.Decide.{dec_le, ℕ_discrete}
use Rattle.wy_claim.specs.Claimed.{times, once_below, late}

-- 1 where the test holds, and else 0
abbrev pub one : Bool → ℕ
one test = cond test 1 0

once_below_cases : (limit number : ℕ) → Dec (limit ≤ number) → Dec (limit ≡ number) → once_below (limit + 1) number ≡ once_below limit number + one (limit == number)
once_below_cases limit number (yes past) (yes same) =
    let after = ap one (lt-ltb number (limit + 1) (omega arith)) in
    let before = ap one (le-ltb number limit past) in
    let this = ap one (eq-eqb limit number same) in
    omega arith
once_below_cases limit number (yes past) (no other) =
    let after = ap one (le-ltb number (limit + 1) (omega arith)) in
    let before = ap one (le-ltb number limit past) in
    let this = ap one (ne_eqb limit number other) in
    omega arith
once_below_cases limit number (no below) (yes same) = absurd (below (omega arith))
once_below_cases limit number (no below) (no other) =
    let under : number < limit = lt_of_not-le below in
    let after = ap one (lt-ltb number (limit + 1) (omega arith)) in
    let before = ap one (lt-ltb number limit under) in
    let this = ap one (ne_eqb limit number other) in
    omega arith

pub once_below-suc : (limit number : ℕ) → once_below (limit + 1) number ≡ once_below limit number + one (limit == number)
once_below-suc limit number = once_below_cases limit number (dec_le limit number) (ℕ_discrete limit number)

pub once_below-one : (limit number : ℕ) → number < limit → once_below limit number ≡ 1
once_below-one limit number under = ap one (lt-ltb number limit under)

pub once_below-zero : (limit number : ℕ) → limit ≤ number → once_below limit number ≡ 0
once_below-zero limit number past = ap one (le-ltb number limit past)

below_cases : (limit number : ℕ) → Dec (limit ≤ number) → 1 ≤ once_below limit number → number < limit
below_cases limit number (yes past) some_there = let none = once_below-zero limit number past in absurd (omega arith)
below_cases limit number (no below) some_there = lt_of_not-le below

-- what stands once below a limit is below it
pub below_limit : (limit number : ℕ) → 1 ≤ once_below limit number → number < limit
below_limit limit number = below_cases limit number (dec_le limit number)

most_cases : (limit number : ℕ) → Dec (limit ≤ number) → once_below limit number ≤ 1
most_cases limit number (yes past) = let none = once_below-zero limit number past in omega arith
most_cases limit number (no below) = let this = once_below-one limit number (lt_of_not-le below) in omega arith

pub once_below-le-one : (limit number : ℕ) → once_below limit number ≤ 1
once_below-le-one limit number = most_cases limit number (dec_le limit number)

late_cases : (limit number : ℕ) → Dec (limit ≤ number) → Dec (number ≡ limit) → one (nat_le limit number) ≡ one (number == limit) + one (nat_le (limit + 1) number)
late_cases limit number (yes past) (yes same) =
    let here = ap one (le-leb limit number past) in
    let this = ap one (eq-eqb number limit same) in
    let beyond = ap one (lt-leb (limit + 1) number (omega arith)) in
    omega arith
late_cases limit number (yes past) (no other) =
    let here = ap one (le-leb limit number past) in
    let this = ap one (ne_eqb number limit other) in
    let beyond = ap one (le-leb (limit + 1) number (omega arith)) in
    omega arith
late_cases limit number (no below) (yes same) = absurd (below (omega arith))
late_cases limit number (no below) (no other) =
    let under : number < limit = lt_of_not-le below in
    let here = ap one (lt-leb limit number under) in
    let this = ap one (ne_eqb number limit other) in
    let beyond = ap one (lt-leb (limit + 1) number (omega arith)) in
    omega arith

-- what is of a limit or more is the limit or more than it
pub late-suc : (limit : ℕ) (numbers : List ℕ) → late limit numbers ≡ times limit numbers + late (limit + 1) numbers
late-suc limit [] = refl
late-suc limit (x ∷ xs) =
    let all = sum_by-cons (λ y. one (nat_le limit y)) x xs in
    let this = sum_by-cons (λ y. one (y == limit)) x xs in
    let beyond = sum_by-cons (λ y. one (nat_le (limit + 1) y)) x xs in
    let first = late_cases limit x (dec_le limit x) (ℕ_discrete x limit) in
    let rest = late-suc limit xs in
    omega arith

pub late-zero : (limit : ℕ) (numbers : List ℕ) → All (λ number. number < limit) numbers → late limit numbers ≡ 0
late-zero limit [] below = refl
late-zero limit (x ∷ xs) below =
    let under : x < limit = below zero x (omega arith) in
    let this = ap one (lt-leb limit x under) in
    let rest = late-zero limit xs (λ k d within. below (suc k) d (omega arith)) in
    omega (arith, sum_by-cons (λ y. one (nat_le limit y)) x xs)

-- where l of a number is s of it and l of the next, l of a number is at least the length of a row of ones of s
pub row_of_ones : (s l : ℕ → ℕ) → ((k : ℕ) → l k ≡ s k + l (k + 1)) → (n from : ℕ) → ((k : ℕ) → from ≤ k → k < from + n → s k ≡ 1) → n ≤ l from
row_of_ones s l parts zero from ones = omega arith
row_of_ones s l parts (suc n) from ones =
    let this = ones from (omega arith) (omega arith) in
    let rest = row_of_ones s l parts n (from + 1) (λ k low high. ones k (omega arith) (omega arith)) in
    omega (arith, parts from)

-- a number of the list stands in it
pub times-Contains : (numbers : List ℕ) (number : ℕ) → Contains numbers number → 1 ≤ times number numbers
times-Contains numbers number found =
    let part = get_or-le-sum_by (λ x. one (x == number)) numbers found.0 number found.1 in
    let this = ap one (eq-eqb (get_or numbers found.0 number) number found.2) in
    omega arith

module _ (number : ℕ) (test : ℕ → Bool) where
  pub times-filter-le : (numbers : List ℕ) → times number (filter test numbers) ≤ times number numbers
  times-filter-le [] = omega arith
  times-filter-le (x ∷ xs) =
      let whole = sum_by-cons (λ y. one (y == number)) x xs in
      let rest = times-filter-le xs in
      elim (test x) as (λ b. times number (cond b (x ∷ filter test xs) (filter test xs)) ≤ times number (x ∷ xs)) [
        | true ↦ omega (arith, sum_by-cons (λ y. one (y == number)) x (filter test xs))
        | false ↦ omega arith
      ]

  kept_cases : (x : ℕ) (xs : List ℕ) → test number ≡ true → times number (filter test xs) ≡ times number xs → (b : Bool) → test x ≡ b → times number (cond b (x ∷ filter test xs) (filter test xs)) ≡ times number (x ∷ xs)
  kept_cases x xs passes rest true is =
      let kept = sum_by-cons (λ y. one (y == number)) x (filter test xs) in
      let whole = sum_by-cons (λ y. one (y == number)) x xs in
      omega arith
  kept_cases x xs passes rest false is =
      let whole = sum_by-cons (λ y. one (y == number)) x xs in
      let this = ap one (ne_eqb x number (λ same. true≢false (sym passes ∙ ap test (sym same) ∙ is))) in
      omega arith

  pub times-filter_kept : (numbers : List ℕ) → test number ≡ true → times number (filter test numbers) ≡ times number numbers
  times-filter_kept [] passes = refl
  times-filter_kept (x ∷ xs) passes = kept_cases x xs passes (times-filter_kept xs passes) (test x) refl

  left_out_cases : (x : ℕ) (xs : List ℕ) → test number ≡ false → times number (filter test xs) ≡ 0 → (b : Bool) → test x ≡ b → times number (cond b (x ∷ filter test xs) (filter test xs)) ≡ 0
  left_out_cases x xs fails rest true is =
      let kept = sum_by-cons (λ y. one (y == number)) x (filter test xs) in
      let this = ap one (ne_eqb x number (λ same. true≢false (sym is ∙ ap test same ∙ fails))) in
      omega arith
  left_out_cases x xs fails rest false is = rest

  pub times-filter_left_out : (numbers : List ℕ) → test number ≡ false → times number (filter test numbers) ≡ 0
  times-filter_left_out [] fails = refl
  times-filter_left_out (x ∷ xs) fails = left_out_cases x xs fails (times-filter_left_out xs fails) (test x) refl

-- each number is below the limit, where no number of the limit or more stands in the list
pub All-below : (limit : ℕ) (numbers : List ℕ) → ((number : ℕ) → times number numbers ≤ once_below limit number) → All (λ number. number < limit) numbers
All-below limit numbers once k d within =
    let number = get_or numbers k d in
    let there = times-Contains numbers number (Contains-get_or numbers k d within) in
    below_limit limit number (omega (arith, once number))

late-all : (numbers : List ℕ) → late 0 numbers ≡ length numbers
late-all [] = refl
late-all (x ∷ xs) =
    let this = ap one (le-leb 0 x (omega arith)) in
    omega (arith, sum_by-cons (λ y. one (nat_le 0 y)) x xs, late-all xs)

-- where l of a number is s of it and l of the next, s is at most one and l ends, l is at most the number of steps
row_at_most : (s l : ℕ → ℕ) → ((k : ℕ) → l k ≡ s k + l (k + 1)) → ((k : ℕ) → s k ≤ 1) → (n from : ℕ) → l (from + n) ≡ 0 → l from ≤ n
row_at_most s l parts most zero from ends = let same = ap l (add-zero from) in omega arith
row_at_most s l parts most (suc n) from ends =
    let next : from + 1 + n ≡ from + suc n = omega arith in
    let rest = row_at_most s l parts most n (from + 1) (ap l next ∙ ends) in
    omega (arith, parts from, most from)

-- a list in which each number below the limit stands at most once, and no other, has at most as many numbers
pub length-le : (limit : ℕ) (numbers : List ℕ) → ((number : ℕ) → times number numbers ≤ once_below limit number) → length numbers ≤ limit
length-le limit numbers once =
    let ends = late-zero limit numbers (All-below limit numbers once) in
    let whole = late-all numbers in
    let most = row_at_most (λ k. times k numbers) (λ k. late k numbers) (λ k. late-suc k numbers)
    (λ k. let one_each = once_below-le-one limit k in omega (arith, once k)) limit 0 (ap (λ k. late k numbers) (zero-add limit) ∙ ends)
    in
    omega arith
