-- As many different terms as there are numbers that name them, each once.
use Rattle.std.proofs.Common.{◌≡◌, inl, inr, ℕ, suc, List, [], ◌∷◌, ◌++◌, length, true, false, refl, sym, ap, subst, ◌∙◌}
use Rattle.std.specs.Prelude.{if◌then◌else◌}
use Rattle.std.proofs.Math.Dec.{eqb}
use Rattle.std.proofs.lemmas.Bool.{or_parts, eqb-true, eqb-false, cases_Bool, cond-true, cond-false, both_ways, false_from_ne_true}
use Rattle.wy_term.specs.Term.{Term}
use Rattle.wy_vc_spec.specs.Limits.{different, has_term, is_among}
use Rattle.wy_vc.specs.Shared.{AreApart}
use Rattle.wy_vc.proofs.AmongLemmas.{among_first, among_more, among_cases, among_either, has_first, has_more, has_cases}

-- the numbers but for this one
abbrev without : List ℕ → ℕ → List ℕ
without [] n = []
without (k ∷ ks) n = if eqb k n then ks else k ∷ without ks n

without_here : (k : ℕ) (ks : List ℕ) (n : ℕ) → eqb k n ≡ true → without (k ∷ ks) n ≡ ks
without_here k ks n e = cond-true (eqb k n) ks (k ∷ without ks n) e

without_later : (k : ℕ) (ks : List ℕ) (n : ℕ) → eqb k n ≡ false → without (k ∷ ks) n ≡ k ∷ without ks n
without_later k ks n e = cond-false (eqb k n) ks (k ∷ without ks n) e

without_length : (ks : List ℕ) (n : ℕ) → is_among ks n ≡ true → length ks ≡ suc (length (without ks n))
without_length [] n h = absurd cc
without_length (k ∷ ks) n h = elim (cases_Bool (eqb k n)) as (λ _. length (k ∷ ks) ≡ suc (length (without (k ∷ ks) n))) [
  | inl e ↦ ap (λ (l : List ℕ). suc (length l)) (sym (without_here k ks n e))
  | inr e ↦ elim (among_cases k ks n h) as (λ _. length (k ∷ ks) ≡ suc (length (without (k ∷ ks) n))) [
    | inl is ↦ absurd (eqb-false k n e is)
    | inr g ↦ ap (λ (m : ℕ). suc m) (without_length ks n g) ∙ ap (λ (l : List ℕ). suc (length l)) (sym (without_later k ks n e))
  ]
]

without_keeps : (ks : List ℕ) (n m : ℕ) → is_among ks m ≡ true → (n ≡ m → ⊥) → is_among (without ks n) m ≡ true
without_keeps [] n m h other = absurd cc
without_keeps (k ∷ ks) n m h other = elim (cases_Bool (eqb k n)) as (λ _. is_among (without (k ∷ ks) n) m ≡ true) [
  | inl e ↦ elim (among_cases k ks m h) as (λ _. is_among (without (k ∷ ks) n) m ≡ true) [
    | inl is ↦ absurd (other (sym (eqb-true k n e) ∙ is))
    | inr g ↦ subst (λ (l : List ℕ). is_among l m ≡ true) (sym (without_here k ks n e)) g
  ]
  | inr e ↦ subst (λ (l : List ℕ). is_among l m ≡ true) (sym (without_later k ks n e)) (elim (among_cases k ks m h) as (λ _. is_among (k ∷ without ks n) m ≡ true) [
    | inl is ↦ subst (λ (x : ℕ). is_among (k ∷ without ks n) x ≡ true) is (among_first k (without ks n))
    | inr g ↦ among_more k (without ks n) m (without_keeps ks n m g other)
  ])
]

without_from : (ks : List ℕ) (n m : ℕ) → is_among (without ks n) m ≡ true → is_among ks m ≡ true
without_from [] n m h = absurd cc
without_from (k ∷ ks) n m h = elim (cases_Bool (eqb k n)) as (λ _. is_among (k ∷ ks) m ≡ true) [
  | inl e ↦ among_more k ks m (subst (λ (l : List ℕ). is_among l m ≡ true) (without_here k ks n e) h)
  | inr e ↦ elim (among_cases k (without ks n) m (subst (λ (l : List ℕ). is_among l m ≡ true) (without_later k ks n e) h)) as (λ _. is_among (k ∷ ks) m ≡ true) [
    | inl is ↦ subst (λ (x : ℕ). is_among (k ∷ ks) x ≡ true) is (among_first k ks)
    | inr g ↦ among_more k ks m (without_from ks n m g)
  ]
]

without_apart : (ks : List ℕ) (n : ℕ) → AreApart ks → AreApart (without ks n)
without_apart [] n apart = tt
without_apart (k ∷ ks) n apart = elim (cases_Bool (eqb k n)) as (λ _. AreApart (without (k ∷ ks) n)) [
  | inl e ↦ subst AreApart (sym (without_here k ks n e)) apart.1
  | inr e ↦ subst AreApart (sym (without_later k ks n e)) (false_from_ne_true (is_among (without ks n) k) (λ h. both_ways (is_among ks k) apart.0 (without_from ks n k h)), without_apart ks n apart.1)
]

-- the number itself is gone
without_none : (ks : List ℕ) (n : ℕ) → AreApart ks → is_among (without ks n) n ≡ true → ⊥
without_none [] n apart h = cc
without_none (k ∷ ks) n apart h = elim (cases_Bool (eqb k n)) as (λ _. ⊥) [
  | inl e ↦ both_ways (is_among ks k) apart.0 (subst (λ (x : ℕ). is_among ks x ≡ true) (sym (eqb-true k n e)) (subst (λ (l : List ℕ). is_among l n ≡ true) (without_here k ks n e) h))
  | inr e ↦ elim (among_cases k (without ks n) n (subst (λ (l : List ℕ). is_among l n ≡ true) (without_later k ks n e) h)) as (λ _. ⊥) [
    | inl is ↦ eqb-false k n e is
    | inr g ↦ without_none ks n apart.1 g
  ]
]

pub apart_push : (ks : List ℕ) (n : ℕ) → AreApart ks → is_among ks n ≡ false → AreApart (ks ++ n ∷ [])
apart_push [] n apart new = (refl, tt)
apart_push (k ∷ ks) n apart new = (false_from_ne_true (is_among (ks ++ n ∷ []) k) none, apart_push ks n apart.1 parts.1)
  where
    parts : (eqb k n ≡ false) × (is_among ks n ≡ false)
    parts = or_parts (eqb k n) (is_among ks n) new

    none : is_among (ks ++ n ∷ []) k ≡ true → ⊥
    none h = elim (among_either ks (n ∷ []) k h) as (λ _. ⊥) [
      | inl g ↦ both_ways (is_among ks k) apart.0 g
      | inr g ↦ elim (among_cases n [] k g) as (λ _. ⊥) [ inl is ↦ eqb-false k n parts.0 (sym is) | inr f ↦ cc ]
    ]

-- the numbers name these terms, each another one, and no other
pub record Name (f : ℕ → Term) (all : List ℕ) (ts : List Term) : Type 0 where
  pub apart : AreApart all
  pub one : (i j : ℕ) → is_among all i ≡ true → is_among all j ≡ true → f i ≡ f j → i ≡ j
  pub whole : (t : Term) → has_term ts t ≡ true → (j : ℕ) × (is_among all j ≡ true) × (f j ≡ t)
  pub inside : (j : ℕ) → is_among all j ≡ true → has_term ts (f j) ≡ true

none_named : (f : ℕ → Term) (all : List ℕ) → Name f all [] → 0 ≡ length all
none_named f [] named = refl
none_named f (k ∷ ks) named = absurd (let h : false ≡ true = named.inside k (among_first k ks) in cc)

-- a term that stands further on
same_named : (f : ℕ → Term) (all : List ℕ) (t : Term) (ts : List Term) → has_term ts t ≡ true → Name f all (t ∷ ts) → Name f all ts
same_named f all t ts again named = record {
  apart = named.apart;
  one = named.one;
  whole = λ u h. named.whole u (has_more t ts u h);
  inside = λ j h. elim (has_cases t ts (f j) (named.inside j h)) as (λ _. has_term ts (f j) ≡ true) [ inl e ↦ subst (λ (x : Term). has_term ts x ≡ true) e again | inr g ↦ g ];
}

-- a term that doesn't
fewer_named : (f : ℕ → Term) (all : List ℕ) (t : Term) (ts : List Term) (n : ℕ) → has_term ts t ≡ false → is_among all n ≡ true → f n ≡ t → Name f all (t ∷ ts) → Name f (without all n) ts
fewer_named f all t ts n new here is named = record {
  apart = without_apart all n named.apart;
  one = λ i j a b e. named.one i j (without_from all n i a) (without_from all n j b) e;
  whole = λ u h. let r = named.whole u (has_more t ts u h) in (r.0, without_keeps all n r.0 r.1 (λ e. both_ways (has_term ts t) new (subst (λ (x : Term). has_term ts x ≡ true) (sym r.2 ∙ (sym (ap f e) ∙ is)) h)), r.2);
  inside = λ j h. elim (has_cases t ts (f j) (named.inside j (without_from all n j h))) as (λ _. has_term ts (f j) ≡ true) [
    | inl e ↦ absurd (without_none all n named.apart (subst (λ (x : ℕ). is_among (without all n) x ≡ true) (named.one j n (without_from all n j h) here (sym e ∙ sym is)) h))
    | inr g ↦ g
  ];
}

pub counted : (f : ℕ → Term) (all : List ℕ) (ts : List Term) → Name f all ts → different ts ≡ length all
counted f all [] named = none_named f all named
counted f all (t ∷ ts) named = elim (cases_Bool (has_term ts t)) as (λ _. different (t ∷ ts) ≡ length all) [
  | inl again ↦ cond-true (has_term ts t) (different ts) (suc (different ts)) again ∙ counted f all ts (same_named f all t ts again named)
  | inr new ↦
      let r = named.whole t (has_first t ts) in
      cond-false (has_term ts t) (different ts) (suc (different ts)) new
      ∙ (ap (λ (n : ℕ). suc n) (counted f (without all r.0) ts (fewer_named f all t ts r.0 new r.1 r.2 named)) ∙ sym (without_length all r.0 r.1))
]
