-- How many different terms there are, as lists grow.
use Rattle.std.proofs.Common.{◌≡◌, ◌≤◌, inl, inr, ℕ, suc, true, false, List, [], ◌∷◌, refl, sym, ◌∙◌, ap, subst, arith}
use Rattle.std.specs.Prelude.{if◌then◌else◌}
use Rattle.std.proofs.lemmas.Bool.{both_ways, cases_Bool, cond-true, cond-false}
use Rattle.wy_term.specs.Term.{Term}
use Rattle.wy_term.specs.Same.{same_term}
use Rattle.wy_term.proofs.SameLemmas.{terms_are, terms_self}
use Rattle.wy_vc_spec.specs.Limits.{different, has_term}
use Rattle.wy_vc.proofs.AmongLemmas.{has_cases, has_first, has_more}

-- each term of the one list is one of the other
abbrev pub IsWithin : List Term → List Term → Type 0
IsWithin xs ys = (t : Term) → has_term xs t ≡ true → has_term ys t ≡ true

-- the terms but for this one
abbrev without : List Term → Term → List Term
without [] t = []
without (u ∷ us) t = if same_term u t then without us t else u ∷ without us t

without_here : (u : Term) (us : List Term) (t : Term) → same_term u t ≡ true → without (u ∷ us) t ≡ without us t
without_here u us t e = cond-true (same_term u t) (without us t) (u ∷ without us t) e

without_other : (u : Term) (us : List Term) (t : Term) → same_term u t ≡ false → without (u ∷ us) t ≡ u ∷ without us t
without_other u us t e = cond-false (same_term u t) (without us t) (u ∷ without us t) e

-- another term stays
without_keeps : (us : List Term) (t s : Term) → (t ≡ s → ⊥) → has_term us s ≡ true → has_term (without us t) s ≡ true
without_keeps [] t s other h = h
without_keeps (u ∷ us) t s other h = elim (cases_Bool (same_term u t)) as (λ _. has_term (without (u ∷ us) t) s ≡ true) [
  | inl e ↦ subst (λ (l : List Term). has_term l s ≡ true) (sym (without_here u us t e)) (elim (has_cases u us s h) as (λ _. has_term (without us t) s ≡ true) [
    | inl is ↦ absurd (other (sym (terms_are u t e) ∙ is))
    | inr g ↦ without_keeps us t s other g
  ])
  | inr e ↦ subst (λ (l : List Term). has_term l s ≡ true) (sym (without_other u us t e)) (elim (has_cases u us s h) as (λ _. has_term (u ∷ without us t) s ≡ true) [
    | inl is ↦ subst (λ (x : Term). has_term (u ∷ without us t) x ≡ true) is (has_first u (without us t))
    | inr g ↦ has_more u (without us t) s (without_keeps us t s other g)
  ])
]

-- nothing comes in
without_from : (us : List Term) (t s : Term) → has_term (without us t) s ≡ true → has_term us s ≡ true
without_from [] t s h = h
without_from (u ∷ us) t s h = elim (cases_Bool (same_term u t)) as (λ _. has_term (u ∷ us) s ≡ true) [
  | inl e ↦ has_more u us s (without_from us t s (subst (λ (l : List Term). has_term l s ≡ true) (without_here u us t e) h))
  | inr e ↦ elim (has_cases u (without us t) s (subst (λ (l : List Term). has_term l s ≡ true) (without_other u us t e) h)) as (λ _. has_term (u ∷ us) s ≡ true) [
    | inl is ↦ subst (λ (x : Term). has_term (u ∷ us) x ≡ true) is (has_first u us)
    | inr g ↦ has_more u us s (without_from us t s g)
  ]
]

-- where it doesn't stand nothing goes
without_none : (us : List Term) (t : Term) → has_term us t ≡ false → without us t ≡ us
without_none [] t none = refl
without_none (u ∷ us) t none = elim (cases_Bool (same_term u t)) as (λ _. without (u ∷ us) t ≡ u ∷ us) [
  | inl e ↦ absurd (both_ways (has_term (u ∷ us) t) none (subst (λ (x : Term). has_term (u ∷ us) x ≡ true) (terms_are u t e) (has_first u us)))
  | inr e ↦ without_other u us t e ∙ ap (λ (l : List Term). u ∷ l) (without_none us t (sym (cond-false (same_term u t) true (has_term us t) e) ∙ none))
]

new_one : (t : Term) (ts : List Term) → has_term ts t ≡ false → different (t ∷ ts) ≡ suc (different ts)
new_one t ts new = cond-false (has_term ts t) (different ts) (suc (different ts)) new

old_one : (t : Term) (ts : List Term) → has_term ts t ≡ true → different (t ∷ ts) ≡ different ts
old_one t ts old = cond-true (has_term ts t) (different ts) (suc (different ts)) old

-- one fewer without it
fewer_here : (u : Term) (us : List Term) (t : Term) → same_term u t ≡ true → (has_term us t ≡ true → different us ≡ suc (different (without us t))) → different (u ∷ us) ≡ suc (different (without (u ∷ us) t))
fewer_here u us t e rest = elim (cases_Bool (has_term us u)) as (λ _. different (u ∷ us) ≡ suc (different (without (u ∷ us) t))) [
  | inl again ↦ old_one u us again ∙ rest (subst (λ (x : Term). has_term us x ≡ true) (terms_are u t e) again) ∙ ap (λ (l : List Term). suc (different l)) (sym (without_here u us t e))
  | inr new ↦ new_one u us new ∙ ap (λ (l : List Term). suc (different l)) (sym (without_none us t (subst (λ (x : Term). has_term us x ≡ false) (terms_are u t e) new))) ∙ ap (λ (l : List Term). suc (different l)) (sym (without_here u us t e))
]

still_gone : (us : List Term) (t u : Term) → has_term us u ≡ false → has_term (without us t) u ≡ false
still_gone us t u new = elim (cases_Bool (has_term (without us t) u)) as (λ _. has_term (without us t) u ≡ false) [ inl is ↦ absurd (both_ways (has_term us u) new (without_from us t u is)) | inr is ↦ is ]

fewer_later : (u : Term) (us : List Term) (t : Term) → same_term u t ≡ false → different us ≡ suc (different (without us t)) → different (u ∷ us) ≡ suc (different (without (u ∷ us) t))
fewer_later u us t e rest =
    let apart : t ≡ u → ⊥ = λ is. both_ways (same_term u t) e (subst (λ (x : Term). same_term u x ≡ true) (sym is) (terms_self u)) in
    let tail : suc (different (u ∷ without us t)) ≡ suc (different (without (u ∷ us) t)) = ap (λ (l : List Term). suc (different l)) (sym (without_other u us t e)) in
    elim (cases_Bool (has_term us u)) as (λ _. different (u ∷ us) ≡ suc (different (without (u ∷ us) t))) [
      | inl again ↦ old_one u us again ∙ rest ∙ ap (λ (n : ℕ). suc n) (sym (old_one u (without us t) (without_keeps us t u apart again))) ∙ tail
      | inr new ↦ new_one u us new ∙ ap (λ (n : ℕ). suc n) rest ∙ ap (λ (n : ℕ). suc n) (sym (new_one u (without us t) (still_gone us t u new))) ∙ tail
    ]

one_fewer : (us : List Term) (t : Term) → has_term us t ≡ true → different us ≡ suc (different (without us t))
one_fewer [] t h = absurd (let e : false ≡ true = h in cc)
one_fewer (u ∷ us) t h = elim (cases_Bool (same_term u t)) as (λ _. different (u ∷ us) ≡ suc (different (without (u ∷ us) t))) [
  | inl e ↦ fewer_here u us t e (λ g. one_fewer us t g)
  | inr e ↦ fewer_later u us t e (one_fewer us t (sym (cond-false (same_term u t) true (has_term us t) e) ∙ h))
]

-- a list within another one has no more different terms
pub different_within : (xs ys : List Term) → IsWithin xs ys → different xs ≤ different ys
different_within [] ys within = omega arith
different_within (x ∷ xs) ys within = elim (cases_Bool (has_term xs x)) as (λ _. different (x ∷ xs) ≤ different ys) [
  | inl again ↦ let r = different_within xs ys (λ t h. within t (has_more x xs t h)) in let e = old_one x xs again in omega (arith, r, e)
  | inr new ↦
      let r = different_within xs (without ys x) (λ t h. without_keeps ys x t (λ is. both_ways (has_term xs x) new (subst (λ (y : Term). has_term xs y ≡ true) (sym is) h)) (within t (has_more x xs t h))) in
      let e = new_one x xs new in
      let f = one_fewer ys x (within x (has_first x xs)) in
      omega (arith, r, e, f)
]
