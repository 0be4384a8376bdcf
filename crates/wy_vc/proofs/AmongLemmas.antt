-- Numbers among numbers, and terms among terms.
use Rattle.std.proofs.Common.{◌≡◌, ◌⊎◌, inl, inr, ℕ, List, [], ◌∷◌, ◌++◌, true, ◌||◌, map, refl, sym, subst, ◌∙◌}
use Rattle.std.proofs.Math.Dec.{eqb}
use Rattle.std.proofs.lemmas.Bool.{or_cases, or_left, or_right, eqb-true, eq-eqb, cases_Bool, cond-true, cond-false}
use Rattle.wy_term.specs.Term.{Term, Of, Parts, no_parts, part}
use Rattle.wy_term.specs.Nodes.{parts_at}
use Rattle.wy_term.specs.Same.{same_term}
use Rattle.wy_term.proofs.SameLemmas.{terms_are, terms_self}
use Rattle.wy_vc_spec.specs.Limits.{has_term, is_among, terms_in, terms_in_parts, terms_in_all}

-- ---- numbers

pub among_first : (k : ℕ) (ks : List ℕ) → is_among (k ∷ ks) k ≡ true
among_first k ks = or_left (eqb k k) (is_among ks k) (eq-eqb k k refl)

pub among_more : (k : ℕ) (ks : List ℕ) (n : ℕ) → is_among ks n ≡ true → is_among (k ∷ ks) n ≡ true
among_more k ks n h = or_right (eqb k n) (is_among ks n) h

pub among_cases : (k : ℕ) (ks : List ℕ) (n : ℕ) → is_among (k ∷ ks) n ≡ true → (k ≡ n) ⊎ (is_among ks n ≡ true)
among_cases k ks n h = elim (or_cases (eqb k n) (is_among ks n) h) as (λ _. (k ≡ n) ⊎ (is_among ks n ≡ true)) [ inl e ↦ inl (eqb-true k n e) | inr e ↦ inr e ]

pub among_left : (ks js : List ℕ) (n : ℕ) → is_among ks n ≡ true → is_among (ks ++ js) n ≡ true
among_left [] js n h = absurd cc
among_left (k ∷ ks) js n h = elim (or_cases (eqb k n) (is_among ks n) h) as (λ _. (eqb k n || is_among (ks ++ js) n) ≡ true) [
  | inl e ↦ or_left (eqb k n) (is_among (ks ++ js) n) e
  | inr e ↦ or_right (eqb k n) (is_among (ks ++ js) n) (among_left ks js n e)
]

pub among_right : (ks js : List ℕ) (n : ℕ) → is_among js n ≡ true → is_among (ks ++ js) n ≡ true
among_right [] js n h = h
among_right (k ∷ ks) js n h = or_right (eqb k n) (is_among (ks ++ js) n) (among_right ks js n h)

pub among_either : (ks js : List ℕ) (n : ℕ) → is_among (ks ++ js) n ≡ true → (is_among ks n ≡ true) ⊎ (is_among js n ≡ true)
among_either [] js n h = inr h
among_either (k ∷ ks) js n h = elim (or_cases (eqb k n) (is_among (ks ++ js) n) h) as (λ _. (is_among (k ∷ ks) n ≡ true) ⊎ (is_among js n ≡ true)) [
  | inl e ↦ inl (or_left (eqb k n) (is_among ks n) e)
  | inr e ↦ elim (among_either ks js n e) as (λ _. (is_among (k ∷ ks) n ≡ true) ⊎ (is_among js n ≡ true)) [ inl f ↦ inl (or_right (eqb k n) (is_among ks n) f) | inr f ↦ inr f ]
]

-- ---- terms

pub has_first : (t : Term) (ts : List Term) → has_term (t ∷ ts) t ≡ true
has_first t ts = cond-true (same_term t t) true (has_term ts t) (terms_self t)

pub has_more : (u : Term) (us : List Term) (t : Term) → has_term us t ≡ true → has_term (u ∷ us) t ≡ true
has_more u us t h = elim (cases_Bool (same_term u t)) as (λ _. has_term (u ∷ us) t ≡ true) [
  | inl e ↦ cond-true (same_term u t) true (has_term us t) e
  | inr e ↦ cond-false (same_term u t) true (has_term us t) e ∙ h
]

pub has_cases : (u : Term) (us : List Term) (t : Term) → has_term (u ∷ us) t ≡ true → (u ≡ t) ⊎ (has_term us t ≡ true)
has_cases u us t h = elim (cases_Bool (same_term u t)) as (λ _. (u ≡ t) ⊎ (has_term us t ≡ true)) [
  | inl e ↦ inl (terms_are u t e)
  | inr e ↦ inr (sym (cond-false (same_term u t) true (has_term us t) e) ∙ h)
]

pub has_left : (us vs : List Term) (t : Term) → has_term us t ≡ true → has_term (us ++ vs) t ≡ true
has_left [] vs t h = absurd cc
has_left (u ∷ us) vs t h = elim (has_cases u us t h) as (λ _. has_term (u ∷ (us ++ vs)) t ≡ true) [
  | inl e ↦ subst (λ (x : Term). has_term (u ∷ (us ++ vs)) x ≡ true) e (has_first u (us ++ vs))
  | inr f ↦ has_more u (us ++ vs) t (has_left us vs t f)
]

pub has_right : (us vs : List Term) (t : Term) → has_term vs t ≡ true → has_term (us ++ vs) t ≡ true
has_right [] vs t h = h
has_right (u ∷ us) vs t h = has_more u (us ++ vs) t (has_right us vs t h)

pub has_either : (us vs : List Term) (t : Term) → has_term (us ++ vs) t ≡ true → (has_term us t ≡ true) ⊎ (has_term vs t ≡ true)
has_either [] vs t h = inr h
has_either (u ∷ us) vs t h = elim (has_cases u (us ++ vs) t h) as (λ _. (has_term (u ∷ us) t ≡ true) ⊎ (has_term vs t ≡ true)) [
  | inl e ↦ inl (subst (λ (x : Term). has_term (u ∷ us) x ≡ true) e (has_first u us))
  | inr f ↦ elim (has_either us vs t f) as (λ _. (has_term (u ∷ us) t ≡ true) ⊎ (has_term vs t ≡ true)) [ inl g ↦ inl (has_more u us t g) | inr g ↦ inr g ]
]

-- ---- what terms are made of

pub itself : (t : Term) → has_term (terms_in t) t ≡ true
itself (Of symbol ps) = has_first (Of symbol ps) (terms_in_parts ps)

mutual
  -- what a part of a term is made of, the term is made of
  pub further : (s t u : Term) → has_term (terms_in s) t ≡ true → has_term (terms_in t) u ≡ true → has_term (terms_in s) u ≡ true
  further (Of symbol ps) t u h g = elim (has_cases (Of symbol ps) (terms_in_parts ps) t h) as (λ _. has_term (terms_in (Of symbol ps)) u ≡ true) [
    | inl e ↦ subst (λ (x : Term). has_term (terms_in x) u ≡ true) (sym e) g
    | inr f ↦ has_more (Of symbol ps) (terms_in_parts ps) u (further_parts ps t u f g)
  ]

  further_parts : (ps : Parts) (t u : Term) → has_term (terms_in_parts ps) t ≡ true → has_term (terms_in t) u ≡ true → has_term (terms_in_parts ps) u ≡ true
  further_parts no_parts t u h g = absurd cc
  further_parts (part s ps) t u h g = elim (has_either (terms_in s) (terms_in_parts ps) t h) as (λ _. has_term (terms_in s ++ terms_in_parts ps) u ≡ true) [
    | inl e ↦ has_left (terms_in s) (terms_in_parts ps) u (further s t u e g)
    | inr e ↦ has_right (terms_in s) (terms_in_parts ps) u (further_parts ps t u e g)
  ]

pub further_all : (ts : List Term) (t u : Term) → has_term (terms_in_all ts) t ≡ true → has_term (terms_in t) u ≡ true → has_term (terms_in_all ts) u ≡ true
further_all [] t u h g = absurd cc
further_all (s ∷ ts) t u h g = elim (has_either (terms_in s) (terms_in_all ts) t h) as (λ _. has_term (terms_in s ++ terms_in_all ts) u ≡ true) [
  | inl e ↦ has_left (terms_in s) (terms_in_all ts) u (further s t u e g)
  | inr e ↦ has_right (terms_in s) (terms_in_all ts) u (further_all ts t u e g)
]

-- a part is among what the term is made of
pub part_in : (f : ℕ → Term) (ks : List ℕ) (k : ℕ) → is_among ks k ≡ true → has_term (terms_in_parts (parts_at f ks)) (f k) ≡ true
part_in f [] k h = absurd cc
part_in f (n ∷ ks) k h = elim (among_cases n ks k h) as (λ _. has_term (terms_in (f n) ++ terms_in_parts (parts_at f ks)) (f k) ≡ true) [
  | inl e ↦ subst (λ (x : ℕ). has_term (terms_in (f n) ++ terms_in_parts (parts_at f ks)) (f x) ≡ true) e (has_left (terms_in (f n)) (terms_in_parts (parts_at f ks)) (f n) (itself (f n)))
  | inr e ↦ has_right (terms_in (f n)) (terms_in_parts (parts_at f ks)) (f k) (part_in f ks k e)
]

-- what parts are made of, one of them is made of
pub in_part : (f : ℕ → Term) (ks : List ℕ) (t : Term) → has_term (terms_in_parts (parts_at f ks)) t ≡ true → (k : ℕ) × (is_among ks k ≡ true) × (has_term (terms_in (f k)) t ≡ true)
in_part f [] t h = absurd cc
in_part f (n ∷ ks) t h = elim (has_either (terms_in (f n)) (terms_in_parts (parts_at f ks)) t h) as (λ _. (k : ℕ) × (is_among (n ∷ ks) k ≡ true) × (has_term (terms_in (f k)) t ≡ true)) [
  | inl e ↦ (n, among_first n ks, e)
  | inr e ↦ let r = in_part f ks t e in (r.0, among_more n ks r.0 r.1, r.2)
]

-- a root is among what the roots are made of
pub root_in : (f : ℕ → Term) (ks : List ℕ) (k : ℕ) → is_among ks k ≡ true → has_term (terms_in_all (map f ks)) (f k) ≡ true
root_in f [] k h = absurd cc
root_in f (n ∷ ks) k h = elim (among_cases n ks k h) as (λ _. has_term (terms_in (f n) ++ terms_in_all (map f ks)) (f k) ≡ true) [
  | inl e ↦ subst (λ (x : ℕ). has_term (terms_in (f n) ++ terms_in_all (map f ks)) (f x) ≡ true) e (has_left (terms_in (f n)) (terms_in_all (map f ks)) (f n) (itself (f n)))
  | inr e ↦ has_right (terms_in (f n)) (terms_in_all (map f ks)) (f k) (root_in f ks k e)
]

pub in_root : (f : ℕ → Term) (ks : List ℕ) (t : Term) → has_term (terms_in_all (map f ks)) t ≡ true → (k : ℕ) × (is_among ks k ≡ true) × (has_term (terms_in (f k)) t ≡ true)
in_root f [] t h = absurd cc
in_root f (n ∷ ks) t h = elim (has_either (terms_in (f n)) (terms_in_all (map f ks)) t h) as (λ _. (k : ℕ) × (is_among (n ∷ ks) k ≡ true) × (has_term (terms_in (f k)) t ≡ true)) [
  | inl e ↦ (n, among_first n ks, e)
  | inr e ↦ let r = in_root f ks t e in (r.0, among_more n ks r.0 r.1, r.2)
]
