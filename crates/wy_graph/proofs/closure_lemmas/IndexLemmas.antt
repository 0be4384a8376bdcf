-- Each clause stands at each number that it mentions.
use Rattle.std.proofs.Common.{◌≡◌, ℕ, zero, suc, ◌+◌, ◌<◌, ◌≤◌, List, [], ◌∷◌, ◌++◌, length, true, false, ◌||◌, ◌⊎◌, inl, inr, set, drop, Some, refl, sym, ap, subst, ◌∙◌, arith}
use Rattle.std.specs.Prelude.{slice_get, ◌==◌}
use Rattle.std.proofs.lemmas.Bool.{or_cases, eqb-true, eq-eqb}
use Rattle.wy_graph.specs.declared.closure.clauses.Clause.{Clause}
use Rattle.wy_graph.specs.closure.Closure.{has}
use Rattle.wy_graph.specs.closure.Index.{mentions, asking_at, IsIndex, with_clause, with_numbers, with_body, with_all}
use Rattle.wy_lemmas.proofs.Choices.{or_left, or_right}

pub has_left : (xs ys : List ℕ) (n : ℕ) → has xs n ≡ true → has (xs ++ ys) n ≡ true
has_left [] ys n e = absurd cc
has_left (x ∷ xs) ys n e = elim (or_cases (x == n) (has xs n) e) as (λ _. ((x == n) || has (xs ++ ys) n) ≡ true) [
  | inl f ↦ or_left (x == n) (has (xs ++ ys) n) f
  | inr f ↦ or_right (x == n) (has (xs ++ ys) n) (has_left xs ys n f)
]

pub has_right : (xs ys : List ℕ) (n : ℕ) → has ys n ≡ true → has (xs ++ ys) n ≡ true
has_right [] ys n e = e
has_right (x ∷ xs) ys n e = or_right (x == n) (has (xs ++ ys) n) (has_right xs ys n e)

pub has_or : (xs ys : List ℕ) (n : ℕ) → has (xs ++ ys) n ≡ true → (has xs n ≡ true) ⊎ (has ys n ≡ true)
has_or [] ys n e = inr e
has_or (x ∷ xs) ys n e = elim (or_cases (x == n) (has (xs ++ ys) n) e) as (λ _. (has (x ∷ xs) n ≡ true) ⊎ (has ys n ≡ true)) [
  | inl f ↦ inl (or_left (x == n) (has xs n) f)
  | inr f ↦ elim (has_or xs ys n f) as (λ _. (has (x ∷ xs) n ≡ true) ⊎ (has ys n ≡ true)) [ inl g ↦ inl (or_right (x == n) (has xs n) g) | inr g ↦ inr g ]
]

pub has_one : (x n : ℕ) → has (x ∷ []) n ≡ true → x ≡ n
has_one x n e = elim (or_cases (x == n) false e) as (λ _. x ≡ n) [ inl f ↦ eqb-true x n f | inr f ↦ absurd cc ]

pub has_self : (x : ℕ) (xs : List ℕ) → has (x ∷ xs) x ≡ true
has_self x xs = or_left (x == x) (has xs x) (eq-eqb x x refl)

-- ---- lengths

pub length_clause : (asking : List (List ℕ)) (n i : ℕ) → length (with_clause asking n i) ≡ length asking
length_clause [] n i = refl
length_clause (a ∷ asking) zero i = refl
length_clause (a ∷ asking) (suc n) i = let e = length_clause asking n i in omega (arith, e)

length_numbers : (asking : List (List ℕ)) (ns : List ℕ) (i : ℕ) → length (with_numbers asking ns i) ≡ length asking
length_numbers asking [] i = refl
length_numbers asking (n ∷ ns) i = length_numbers (with_clause asking n i) ns i ∙ length_clause asking n i

length_body : (asking body : List (List ℕ)) (i : ℕ) → length (with_body asking body i) ≡ length asking
length_body asking [] i = refl
length_body asking (ns ∷ more) i = length_body (with_numbers asking ns i) more i ∙ length_numbers asking ns i

pub length_all : (asking : List (List ℕ)) (cs : List Clause) (i : ℕ) → length (with_all asking cs i) ≡ length asking
length_all asking [] i = refl
length_all asking (c ∷ cs) i = length_all (with_body asking c.body i) cs (suc i) ∙ length_body asking c.body i

-- ---- what stands somewhere stays

keeps_clause : (asking : List (List ℕ)) (n i m j : ℕ) → has (asking_at asking m) j ≡ true → has (asking_at (with_clause asking n i) m) j ≡ true
keeps_clause [] n i m j e = e
keeps_clause (a ∷ asking) zero i zero j e = has_left a (i ∷ []) j e
keeps_clause (a ∷ asking) zero i (suc m) j e = e
keeps_clause (a ∷ asking) (suc n) i zero j e = e
keeps_clause (a ∷ asking) (suc n) i (suc m) j e = keeps_clause asking n i m j e

keeps_numbers : (asking : List (List ℕ)) (ns : List ℕ) (i m j : ℕ) → has (asking_at asking m) j ≡ true → has (asking_at (with_numbers asking ns i) m) j ≡ true
keeps_numbers asking [] i m j e = e
keeps_numbers asking (n ∷ ns) i m j e = keeps_numbers (with_clause asking n i) ns i m j (keeps_clause asking n i m j e)

keeps_body : (asking body : List (List ℕ)) (i m j : ℕ) → has (asking_at asking m) j ≡ true → has (asking_at (with_body asking body i) m) j ≡ true
keeps_body asking [] i m j e = e
keeps_body asking (ns ∷ more) i m j e = keeps_body (with_numbers asking ns i) more i m j (keeps_numbers asking ns i m j e)

keeps_all : (asking : List (List ℕ)) (cs : List Clause) (i m j : ℕ) → has (asking_at asking m) j ≡ true → has (asking_at (with_all asking cs i) m) j ≡ true
keeps_all asking [] i m j e = e
keeps_all asking (c ∷ cs) i m j e = keeps_all (with_body asking c.body i) cs (suc i) m j (keeps_body asking c.body i m j e)

-- ---- what is put in stands there

puts_clause : (asking : List (List ℕ)) (n i : ℕ) → n < length asking → has (asking_at (with_clause asking n i) n) i ≡ true
puts_clause [] n i lt = absurd (omega (arith, lt))
puts_clause (a ∷ asking) zero i lt = has_right a (i ∷ []) i (has_self i [])
puts_clause (a ∷ asking) (suc n) i lt = puts_clause asking n i (omega (arith, lt))

puts_numbers : (asking : List (List ℕ)) (ns : List ℕ) (i m : ℕ) → m < length asking → has ns m ≡ true → has (asking_at (with_numbers asking ns i) m) i ≡ true
puts_numbers asking [] i m lt e = absurd cc
puts_numbers asking (n ∷ ns) i m lt e = by (or_cases (n == m) (has ns m) e) (λ f. puts_numbers (with_clause asking n i) ns i m (let l = length_clause asking n i in omega (arith, l, lt)) f)
  where
    by : ((n == m) ≡ true) ⊎ (has ns m ≡ true) → (has ns m ≡ true → has (asking_at (with_numbers (with_clause asking n i) ns i) m) i ≡ true) → has (asking_at (with_numbers (with_clause asking n i) ns i) m) i ≡ true
    by (inl f) rest =
        let is : m ≡ n = sym (eqb-true n m f) in
        keeps_numbers (with_clause asking n i) ns i m i (subst (λ (x : ℕ). has (asking_at (with_clause asking n i) x) i ≡ true) (sym is) (puts_clause asking n i (subst (λ (x : ℕ). x < length asking) is lt)))
    by (inr f) rest = rest f

puts_body : (asking body : List (List ℕ)) (i m : ℕ) → m < length asking → mentions body m ≡ true → has (asking_at (with_body asking body i) m) i ≡ true
puts_body asking [] i m lt e = absurd cc
puts_body asking (ns ∷ more) i m lt e = by (or_cases (has ns m) (mentions more m) e) (λ f. puts_body (with_numbers asking ns i) more i m (let l = length_numbers asking ns i in omega (arith, l, lt)) f)
  where
    by : (has ns m ≡ true) ⊎ (mentions more m ≡ true) → (mentions more m ≡ true → has (asking_at (with_body (with_numbers asking ns i) more i) m) i ≡ true) → has (asking_at (with_body (with_numbers asking ns i) more i) m) i ≡ true
    by (inl f) rest = keeps_body (with_numbers asking ns i) more i m i (puts_numbers asking ns i m lt f)
    by (inr f) rest = rest f

puts_all : (asking : List (List ℕ)) (cs : List Clause) (i j m : ℕ) (c : Clause) → slice_get cs j ≡ Some c → m < length asking → mentions c.body m ≡ true → has (asking_at (with_all asking cs i) m) (i + j) ≡ true
puts_all asking [] i j m c at lt e = absurd cc
puts_all asking (x ∷ cs) i zero m c at lt e =
    let is : x ≡ c = some_of x c at in
    let n : i + 0 ≡ i = omega arith in
    let put = puts_body asking x.body i m lt (subst (λ (y : Clause). mentions y.body m ≡ true) (sym is) e) in
    subst (λ (y : ℕ). has (asking_at (with_all (with_body asking x.body i) cs (suc i)) m) y ≡ true) (sym n) (keeps_all (with_body asking x.body i) cs (suc i) m i put)
  where
    some_of : (x y : Clause) → Some x ≡ Some y → x ≡ y
    some_of x y e = cc
puts_all asking (x ∷ cs) i (suc j) m c at lt e =
    let n : i + suc j ≡ suc i + j = omega arith in
    let long : m < length (with_body asking x.body i) = (let l = length_body asking x.body i in omega (arith, l, lt)) in
    subst (λ (y : ℕ). has (asking_at (with_all (with_body asking x.body i) cs (suc i)) m) y ≡ true) (sym n) (puts_all (with_body asking x.body i) cs (suc i) j m c at long e)

pub all_index : (asking : List (List ℕ)) (cs : List Clause) → IsIndex cs (with_all asking cs 0)
all_index asking cs i c at m lt e =
    let n : 0 + i ≡ i = omega arith in
    subst (λ (y : ℕ). has (asking_at (with_all asking cs 0) m) y ≡ true) n (puts_all asking cs 0 i m c at (let l = length_all asking cs 0 in omega (arith, l, lt)) e)

-- the lists, one of them with the clause last
pub set_clause : (asking : List (List ℕ)) (n i : ℕ) (a : List ℕ) → slice_get asking n ≡ Some a → set asking n (a ++ i ∷ []) ≡ with_clause asking n i
set_clause [] n i a at = absurd cc
set_clause (x ∷ asking) zero i a at = ap (λ (y : List ℕ). (y ++ i ∷ []) ∷ asking) (some_of a x at)
  where
    some_of : (a x : List ℕ) → Some x ≡ Some a → a ≡ x
    some_of a x e = cc
set_clause (x ∷ asking) (suc n) i a at = ap (λ l. x ∷ l) (set_clause asking n i a at)

pub no_clause : (asking : List (List ℕ)) (n i : ℕ) → length asking ≤ n → with_clause asking n i ≡ asking
no_clause [] n i le = refl
no_clause (x ∷ asking) zero i le = absurd (omega (arith, le))
no_clause (x ∷ asking) (suc n) i le = ap (λ l. x ∷ l) (no_clause asking n i (omega (arith, le)))

-- ---- the end of a loop over the clauses

drop_past : (cs : List Clause) (n : ℕ) → length cs ≤ n → drop n cs ≡ []
drop_past [] zero le = refl
drop_past [] (suc n) le = refl
drop_past (c ∷ cs) zero le = absurd (omega (arith, le))
drop_past (c ∷ cs) (suc n) le = drop_past cs n (omega (arith, le))

pub all_done : (first asking : List (List ℕ)) (cs : List Clause) (n : ℕ) → length cs ≤ n → with_all asking (drop n cs) n ≡ with_all first cs 0 → asking ≡ with_all first cs 0
all_done first asking cs n le e = sym (ap (λ (l : List Clause). with_all asking l n) (drop_past cs n le)) ∙ e
