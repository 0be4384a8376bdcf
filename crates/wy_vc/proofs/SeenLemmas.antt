-- The terms that were seen, each once.
use Rattle.std.proofs.Common.{◌≡◌, ◌<◌, ◌≤◌, ◌+◌, ◌⊎◌, inl, inr, ℕ, zero, suc, Bool, true, false, ◌||◌, List, [], ◌∷◌, ◌++◌, All, length, map, take, drop, get_or, nat_eq, refl, sym, ◌∙◌, ap, subst, arith}
use Rattle.std.specs.Prelude.{if◌then◌else◌, nat_lt}
use Rattle.std.specs.HashSet.{contains}
use Rattle.std.proofs.Math.Dec.{eqb}
use Rattle.std.proofs.lemmas.Bool.{cases_Bool, cond-true, cond-false, both_ways, le-ltb, or_cases, or_left}
use Rattle.std.proofs.lemmas.List.{append-nil, append_assoc, drop_all, drop_more, take_more, take_all, take-append-drop, map-append}
use Rattle.std.proofs.lemmas.List.Elements.{All-get_or, All-head, All-tail}
use Rattle.wy_lemmas.proofs.Choices.{same_test}
use Rattle.wy_term.specs.Term.{Term}
use Rattle.wy_term.specs.Nodes.{Plain, tree_at}
use Rattle.wy_term.specs.Condition.{entry_of}
use Rattle.wy_term.specs.declared.cond.Cond.{Cond}
use Rattle.wy_vc_spec.specs.Limits as spec
use Rattle.wy_vc_spec.specs.Limits.{different, has_term, is_among, terms_in, terms_in_all, terms_of_unfold}
use Rattle.wy_vc_body.specs.wy_vc_operations.Growing.{AreBelow}
use Rattle.wy_vc.specs.Gathered.{AreGathered, AreHeld, Grown}
use Rattle.wy_vc.specs.Shared.{AreApart, AreUnder}
use Rattle.wy_vc.proofs.AmongLemmas.{among_first, among_cases, among_left, among_right, among_either, further_all, has_first, has_cases, has_either, has_left, has_right, in_root, root_in}
use Rattle.wy_vc.proofs.CountLemmas.{apart_push, counted}
use Rattle.wy_vc.proofs.SharedLemmas.{OneEach, listed_count, whole}
use Rattle.wy_vc.proofs.DifferentLemmas.{IsWithin, different_within}
use Rattle.wy_vc.specs.Counted.{IsBounded, IsCounted, is_over, passing_told, roots_of_entries, roots_of_goal, terms_told}
use Rattle.wy_vc.specs.Told.{IsCond, IsEntry, Told, seen_cond}
use Rattle.wy_vc.specs.declared.limits.Seen.{Seen}
use Rattle.wy_vc.specs.declared.shared.Gathered.{Gathered}

-- ---- one term

pub seen_none : (nodes : List Plain) (seen : Seen) → seen.all.items ≡ [] → ((k : ℕ) → contains nat_eq seen.noted k ≡ false) → IsCounted nodes seen []
seen_none nodes seen empty none = record {
  noted = λ k. none k ∙ sym (ap (λ (l : List ℕ). is_among l k) empty);
  below = λ k h. absurd (no k h);
  apart = subst AreApart (sym empty) tt;
  whole = λ t h. absurd (let e : false ≡ true = h in cc);
  inside = λ k h. absurd (no k h);
}
  where
    no : (k : ℕ) → is_among seen.all.items k ≡ true → ⊥
    no k h = let e : false ≡ true = sym (ap (λ (l : List ℕ). is_among l k) empty) ∙ h in cc

-- a term that was seen before
pub seen_again : (nodes : List Plain) (seen : Seen) (ts : List Term) (k : ℕ) → contains nat_eq seen.noted k ≡ true → IsCounted nodes seen ts → IsCounted nodes seen (ts ++ tree_at nodes k ∷ [])
seen_again nodes seen ts k again c = record {
  noted = c.noted;
  below = c.below;
  apart = c.apart;
  whole = λ t h. elim (has_either ts (tree_at nodes k ∷ []) t h) as (λ _. (j : ℕ) × (is_among seen.all.items j ≡ true) × (tree_at nodes j ≡ t)) [
    | inl e ↦ c.whole t e
    | inr e ↦ elim (has_cases (tree_at nodes k) [] t e) as (λ _. (j : ℕ) × (is_among seen.all.items j ≡ true) × (tree_at nodes j ≡ t)) [
      | inl is ↦ (k, sym (c.noted k) ∙ again, is)
      | inr none ↦ absurd (let f : false ≡ true = none in cc)
    ]
  ];
  inside = λ j h. has_left ts (tree_at nodes k ∷ []) (tree_at nodes j) (c.inside j h);
}

-- a new one
pub seen_new : (nodes : List Plain) (old new : Seen) (ts : List Term) (k : ℕ) → k < length nodes → contains nat_eq old.noted k ≡ false → new.all.items ≡ old.all.items ++ k ∷ []
    → ((j : ℕ) → contains nat_eq new.noted j ≡ (if eqb k j then true else contains nat_eq old.noted j)) → IsCounted nodes old ts → IsCounted nodes new (ts ++ tree_at nodes k ∷ [])
seen_new nodes old new ts k lt fresh pushed noted c = record {
  noted = λ j. noted_is j ∙ sym (ap (λ (l : List ℕ). is_among l j) pushed);
  below = λ j h. elim (split j h) as (λ _. j < length nodes) [ inl e ↦ c.below j e | inr e ↦ subst (λ (x : ℕ). x < length nodes) e lt ];
  apart = subst AreApart (sym pushed) (apart_push old.all.items k c.apart (sym (c.noted k) ∙ fresh));
  whole = λ t h. elim (has_either ts (tree_at nodes k ∷ []) t h) as (λ _. (j : ℕ) × (is_among new.all.items j ≡ true) × (tree_at nodes j ≡ t)) [
    | inl e ↦ let r = c.whole t e in (r.0, back r.0 (among_left old.all.items (k ∷ []) r.0 r.1), r.2)
    | inr e ↦ elim (has_cases (tree_at nodes k) [] t e) as (λ _. (j : ℕ) × (is_among new.all.items j ≡ true) × (tree_at nodes j ≡ t)) [
      | inl is ↦ (k, back k (among_right old.all.items (k ∷ []) k (among_first k [])), is)
      | inr none ↦ absurd (let f : false ≡ true = none in cc)
    ]
  ];
  inside = λ j h. elim (split j h) as (λ _. has_term (ts ++ tree_at nodes k ∷ []) (tree_at nodes j) ≡ true) [
    | inl e ↦ has_left ts (tree_at nodes k ∷ []) (tree_at nodes j) (c.inside j e)
    | inr e ↦ has_right ts (tree_at nodes k ∷ []) (tree_at nodes j) (subst (λ (x : ℕ). has_term (tree_at nodes k ∷ []) (tree_at nodes x) ≡ true) e (has_first (tree_at nodes k) []))
  ];
}
  where
    back : (j : ℕ) → is_among (old.all.items ++ k ∷ []) j ≡ true → is_among new.all.items j ≡ true
    back j h = subst (λ (l : List ℕ). is_among l j ≡ true) (sym pushed) h

    split : (j : ℕ) → is_among new.all.items j ≡ true → (is_among old.all.items j ≡ true) ⊎ (k ≡ j)
    split j h = elim (among_either old.all.items (k ∷ []) j (subst (λ (l : List ℕ). is_among l j ≡ true) pushed h)) as (λ _. (is_among old.all.items j ≡ true) ⊎ (k ≡ j)) [
      | inl e ↦ inl e
      | inr e ↦ elim (among_cases k [] j e) as (λ _. (is_among old.all.items j ≡ true) ⊎ (k ≡ j)) [ inl is ↦ inr is | inr none ↦ absurd (let f : false ≡ true = none in cc) ]
    ]

    noted_is : (j : ℕ) → contains nat_eq new.noted j ≡ is_among (old.all.items ++ k ∷ []) j
    noted_is j = same_test (contains nat_eq new.noted j) (is_among (old.all.items ++ k ∷ []) j) forth other
      where
        forth : contains nat_eq new.noted j ≡ true → is_among (old.all.items ++ k ∷ []) j ≡ true
        forth h = elim (cases_Bool (eqb k j)) as (λ _. is_among (old.all.items ++ k ∷ []) j ≡ true) [
          | inl e ↦ among_right old.all.items (k ∷ []) j (or_left (eqb k j) (is_among [] j) e)
          | inr e ↦ among_left old.all.items (k ∷ []) j (sym (c.noted j) ∙ (sym (cond-false (eqb k j) true (contains nat_eq old.noted j) e) ∙ (sym (noted j) ∙ h)))
        ]

        other : is_among (old.all.items ++ k ∷ []) j ≡ true → contains nat_eq new.noted j ≡ true
        other h = elim (cases_Bool (eqb k j)) as (λ _. contains nat_eq new.noted j ≡ true) [
          | inl e ↦ noted j ∙ cond-true (eqb k j) true (contains nat_eq old.noted j) e
          | inr e ↦ elim (among_either old.all.items (k ∷ []) j h) as (λ _. contains nat_eq new.noted j ≡ true) [
            | inl g ↦ noted j ∙ (cond-false (eqb k j) true (contains nat_eq old.noted j) e ∙ (c.noted j ∙ g))
            | inr g ↦ absurd (elim (or_cases (eqb k j) (is_among [] j) g) as (λ _. ⊥) [ inl f ↦ both_ways (eqb k j) e f | inr f ↦ let x : false ≡ true = f in cc ])
          ]
        ]

-- ---- many terms

-- so many of the numbers were seen
abbrev pub IsSeeing : List Plain → Seen → Seen → List ℕ → ℕ → Type 0
IsSeeing nodes old new ks i = (ts : List Term) → IsCounted nodes old ts → IsCounted nodes new (ts ++ map (tree_at nodes) (take i ks))

pub seeing_begin : (nodes : List Plain) (seen : Seen) (ks : List ℕ) → IsSeeing nodes seen seen ks 0
seeing_begin nodes seen ks = λ ts c. subst (λ (l : List Term). IsCounted nodes seen l) (sym (append-nil ts)) c

pub seeing_turn : (nodes : List Plain) (a b c : Seen) (ks : List ℕ) (i : ℕ) → i < length ks → IsSeeing nodes a b ks i
    → ((ts : List Term) → IsCounted nodes b ts → IsCounted nodes c (ts ++ tree_at nodes (get_or ks i 0) ∷ [])) → IsSeeing nodes a c ks (i + 1)
seeing_turn nodes a b c ks i lt inv one = λ ts counted.
    let k = get_or ks i 0 in
    let more : take (i + 1) ks ≡ take i ks ++ k ∷ [] = take_more ks i 0 lt in
    let trees : map (tree_at nodes) (take (i + 1) ks) ≡ map (tree_at nodes) (take i ks) ++ tree_at nodes k ∷ [] = ap (λ (l : List ℕ). map (tree_at nodes) l) more ∙ map-append (tree_at nodes) (take i ks) (k ∷ []) in
    subst (λ (l : List Term). IsCounted nodes c l) (append_assoc ts (map (tree_at nodes) (take i ks)) (tree_at nodes k ∷ []) ∙ ap (λ (l : List Term). ts ++ l) (sym trees))
    (one (ts ++ map (tree_at nodes) (take i ks)) (inv ts counted))

pub seeing_end : (nodes : List Plain) (a b : Seen) (ks : List ℕ) (i : ℕ) → length ks ≤ i → IsSeeing nodes a b ks i → (ts : List Term) → IsCounted nodes a ts → IsCounted nodes b (ts ++ map (tree_at nodes) ks)
seeing_end nodes a b ks i past inv ts c = subst (λ (l : List ℕ). IsCounted nodes b (ts ++ map (tree_at nodes) l)) (take_all i ks past) (inv ts c)

-- numbers and the terms that they name
named_has : (nodes : List Plain) (ks : List ℕ) (k : ℕ) → is_among ks k ≡ true → has_term (map (tree_at nodes) ks) (tree_at nodes k) ≡ true
named_has nodes [] k h = absurd (let f : false ≡ true = h in cc)
named_has nodes (j ∷ ks) k h = elim (among_cases j ks k h) as (λ _. has_term (tree_at nodes j ∷ map (tree_at nodes) ks) (tree_at nodes k) ≡ true) [
  | inl e ↦ subst (λ (x : ℕ). has_term (tree_at nodes j ∷ map (tree_at nodes) ks) (tree_at nodes x) ≡ true) e (has_first (tree_at nodes j) (map (tree_at nodes) ks))
  | inr e ↦ has_right (tree_at nodes j ∷ []) (map (tree_at nodes) ks) (tree_at nodes k) (named_has nodes ks k e)
]

has_named : (nodes : List Plain) (ks : List ℕ) (t : Term) → has_term (map (tree_at nodes) ks) t ≡ true → (k : ℕ) × (is_among ks k ≡ true) × (tree_at nodes k ≡ t)
has_named nodes [] t h = absurd (let f : false ≡ true = h in cc)
has_named nodes (j ∷ ks) t h = elim (has_cases (tree_at nodes j) (map (tree_at nodes) ks) t h) as (λ _. (k : ℕ) × (is_among (j ∷ ks) k ≡ true) × (tree_at nodes k ≡ t)) [
  | inl e ↦ (j, among_first j ks, e)
  | inr e ↦ let r = has_named nodes ks t e in (r.0, among_right (j ∷ []) ks r.0 r.1, r.2)
]

-- as many numbers as different terms
pub seen_count : (nodes : List Plain) (seen : Seen) (ts : List Term) → OneEach nodes → IsCounted nodes seen ts → length seen.all.items ≡ different ts
seen_count nodes seen ts one c = sym (counted (tree_at nodes) seen.all.items ts (record {
  apart = c.apart;
  one = λ i j a b e. (one i j (c.below i a) (c.below j b)).1 e;
  whole = c.whole;
  inside = c.inside;
}))

-- ---- a condition

terms_append : (ts us : List Term) → terms_in_all (ts ++ us) ≡ terms_in_all ts ++ terms_in_all us
terms_append [] us = refl
terms_append (t ∷ ts) us = ap (λ (l : List Term). terms_in t ++ l) (terms_append ts us) ∙ sym (append_assoc (terms_in t) (terms_in_all ts) (terms_in_all us))

entries_terms : (nodes : List Plain) (es : List (ℕ × ℕ × ℕ)) → terms_in_all (map (tree_at nodes) (roots_of_entries es)) ≡ terms_of_unfold (map (entry_of nodes) es)
entries_terms nodes [] = refl
entries_terms nodes (e ∷ es) = ap (λ (l : List Term). terms_in (tree_at nodes e.1) ++ (terms_in (tree_at nodes e.2) ++ l)) (entries_terms nodes es)

-- the front of the hypotheses and the roots behind it are made of the condition's terms
pub roots_terms : (nodes : List Plain) (c : Cond) (front : ℕ) (roots : List ℕ) → roots ≡ drop front c.hyps.items ++ roots_of_goal c
    → terms_in_all (map (tree_at nodes) (take front c.hyps.items)) ++ terms_in_all (map (tree_at nodes) roots) ≡ terms_told (seen_cond nodes c)
roots_terms nodes c front roots is =
    let F = map (tree_at nodes) (take front c.hyps.items) in
    let B = map (tree_at nodes) (drop front c.hyps.items) in
    let H = map (tree_at nodes) c.hyps.items in
    let G = tree_at nodes c.goal in
    let E = map (tree_at nodes) (roots_of_entries c.unfold.list.items) in
    let whole : F ++ B ≡ H = sym (map-append (tree_at nodes) (take front c.hyps.items) (drop front c.hyps.items)) ∙ ap (λ (l : List ℕ). map (tree_at nodes) l) (take-append-drop front c.hyps.items) in
    ap (λ (l : List ℕ). terms_in_all F ++ terms_in_all (map (tree_at nodes) l)) is
    ∙ ap (λ (l : List Term). terms_in_all F ++ terms_in_all l) (map-append (tree_at nodes) (drop front c.hyps.items) (roots_of_goal c))
    ∙ sym (terms_append F (B ++ (G ∷ E)))
    ∙ ap (λ (l : List Term). terms_in_all l) (sym (append_assoc F B (G ∷ E)) ∙ ap (λ (l : List Term). l ++ (G ∷ E)) whole ∙ sym (append_assoc H (G ∷ []) E))
    ∙ terms_append (H ++ G ∷ []) E ∙ ap (λ (l : List Term). terms_in_all (H ++ G ∷ []) ++ l) (entries_terms nodes c.unfold.list.items)

entries_below : (nodes : List Plain) (es : List (ℕ × ℕ × ℕ)) (k : ℕ) → All (IsEntry nodes) es → is_among (roots_of_entries es) k ≡ true → k < length nodes
entries_below nodes [] k are h = absurd (let f : false ≡ true = h in cc)
entries_below nodes (e ∷ es) k are h = elim (among_cases e.1 (e.2 ∷ roots_of_entries es) k h) as (λ _. k < length nodes) [
  | inl is ↦ subst (λ (x : ℕ). x < length nodes) is (All-head (IsEntry nodes) e es are).name
  | inr g ↦ elim (among_cases e.2 (roots_of_entries es) k g) as (λ _. k < length nodes) [
    | inl is ↦ subst (λ (x : ℕ). x < length nodes) is (All-head (IsEntry nodes) e es are).formula
    | inr f ↦ entries_below nodes es k (All-tail (IsEntry nodes) e es are) f
  ]
]

below_at : (n : ℕ) (ks : List ℕ) (k : ℕ) → AreBelow n ks → is_among ks k ≡ true → k < n
below_at n [] k below h = absurd (let f : false ≡ true = h in cc)
below_at n (j ∷ ks) k below h = elim (among_cases j ks k h) as (λ _. k < n) [
  | inl e ↦ subst (λ (x : ℕ). x < n) e (All-head (λ i. i < n) j ks below)
  | inr e ↦ below_at n ks k (All-tail (λ i. i < n) j ks below) e
]

among_dropped : (front : ℕ) (ks : List ℕ) (k : ℕ) → is_among (drop front ks) k ≡ true → is_among ks k ≡ true
among_dropped zero ks k h = h
among_dropped (suc front) [] k h = h
among_dropped (suc front) (j ∷ ks) k h = among_right (j ∷ []) ks k (among_dropped front ks k h)

pub roots_below : (nodes : List Plain) (c : Cond) (front : ℕ) (roots : List ℕ) → IsCond nodes c → roots ≡ drop front c.hyps.items ++ roots_of_goal c → (k : ℕ) → is_among roots k ≡ true → k < length nodes
roots_below nodes c front roots is same k h = elim (among_either (drop front c.hyps.items) (roots_of_goal c) k (subst (λ (l : List ℕ). is_among l k ≡ true) same h)) as (λ _. k < length nodes) [
  | inl e ↦ below_at (length nodes) c.hyps.items k is.hyps (among_dropped front c.hyps.items k e)
  | inr e ↦ elim (among_cases c.goal (roots_of_entries c.unfold.list.items) k e) as (λ _. k < length nodes) [
    | inl at ↦ subst (λ (x : ℕ). x < length nodes) at is.goal
    | inr f ↦ entries_below nodes c.unfold.list.items k is.entries f
  ]
]

-- ---- a condition behind another one

-- what numbers are made of is among what more numbers are made of
numbers_within : (nodes : List Plain) (ks js : List ℕ) → ((k : ℕ) → is_among ks k ≡ true → is_among js k ≡ true) → IsWithin (terms_in_all (map (tree_at nodes) ks)) (terms_in_all (map (tree_at nodes) js))
numbers_within nodes ks js wider t h =
    let r = in_root (tree_at nodes) ks t h in
    further_all (map (tree_at nodes) js) (tree_at nodes r.0) t (root_in (tree_at nodes) js r.0 (wider r.0 r.1)) r.2

-- what both lists of numbers are made of
numbers_both : (nodes : List Plain) (ks js : List ℕ) → terms_in_all (map (tree_at nodes) (ks ++ js)) ≡ terms_in_all (map (tree_at nodes) ks) ++ terms_in_all (map (tree_at nodes) js)
numbers_both nodes ks js = ap (λ (l : List Term). terms_in_all l) (map-append (tree_at nodes) ks js) ∙ terms_append (map (tree_at nodes) ks) (map (tree_at nodes) js)

-- all that a condition is made of
abbrev all_roots : Cond → List ℕ
all_roots c = c.hyps.items ++ roots_of_goal c

all_terms : (nodes : List Plain) (c : Cond) → terms_in_all (map (tree_at nodes) (all_roots c)) ≡ terms_told (seen_cond nodes c)
all_terms nodes c = roots_terms nodes c 0 (all_roots c) refl

among_taken : (n : ℕ) (ks : List ℕ) (k : ℕ) → is_among (take n ks) k ≡ true → is_among ks k ≡ true
among_taken n ks k h = subst (λ (l : List ℕ). is_among l k ≡ true) (take-append-drop n ks) (among_left (take n ks) (drop n ks) k h)

-- a condition's numbers are those that are shared and those behind
behind_all : (c : Cond) (front : ℕ) (last held roots : List ℕ) → roots ≡ drop front c.hyps.items ++ roots_of_goal c → take front last ≡ take front c.hyps.items → ((k : ℕ) → is_among last k ≡ true → is_among held k ≡ true)
    → (k : ℕ) → is_among (all_roots c) k ≡ true → is_among (held ++ roots) k ≡ true
behind_all c front last held roots is same into k h = elim (among_either c.hyps.items (roots_of_goal c) k h) as (λ _. is_among (held ++ roots) k ≡ true) [
  | inl e ↦ elim (among_either (take front c.hyps.items) (drop front c.hyps.items) k (subst (λ (l : List ℕ). is_among l k ≡ true) (sym (take-append-drop front c.hyps.items)) e)) as (λ _. is_among (held ++ roots) k ≡ true) [
    | inl f ↦ among_left held roots k (into k (among_taken front last k (subst (λ (l : List ℕ). is_among l k ≡ true) (sym same) f)))
    | inr f ↦ back (among_left (drop front c.hyps.items) (roots_of_goal c) k f)
  ]
  | inr e ↦ back (among_right (drop front c.hyps.items) (roots_of_goal c) k e)
]
  where
    back : is_among (drop front c.hyps.items ++ roots_of_goal c) k ≡ true → is_among (held ++ roots) k ≡ true
    back g = among_right held roots k (subst (λ (l : List ℕ). is_among l k ≡ true) (sym is) g)

-- those behind are some of all
behind_some : (c : Cond) (front : ℕ) (roots : List ℕ) → roots ≡ drop front c.hyps.items ++ roots_of_goal c → (k : ℕ) → is_among roots k ≡ true → is_among (all_roots c) k ≡ true
behind_some c front roots is k h = elim (among_either (drop front c.hyps.items) (roots_of_goal c) k (subst (λ (l : List ℕ). is_among l k ≡ true) is h)) as (λ _. is_among (all_roots c) k ≡ true) [
  | inl e ↦ among_left c.hyps.items (roots_of_goal c) k (among_dropped front c.hyps.items k e)
  | inr e ↦ among_right c.hyps.items (roots_of_goal c) k e
]

-- what the code knows where a condition's own terms were gathered behind the others
pub record HasGathered (nodes : List Plain) (c : Cond) (old new : Gathered) : Type 0 where
  pub front : ℕ
  pub roots : List ℕ
  pub is : roots ≡ drop front c.hyps.items ++ roots_of_goal c
  pub one : OneEach nodes
  pub grown : Grown old.all.items new.all.items
  pub more : (held : List ℕ) → AreGathered nodes held old → AreGathered nodes (held ++ roots) new

-- what is gathered is of terms from before and of the condition's
gathered_inside : (nodes : List Plain) (c : Cond) (old new : Gathered) (last : List ℕ) (ts : List Term) (k : HasGathered nodes c old new) (h : AreHeld nodes old last ts)
    → IsWithin (terms_in_all (map (tree_at nodes) (h.roots ++ k.roots))) (ts ++ terms_told (seen_cond nodes c))
gathered_inside nodes c old new last ts k h t g = elim (has_either (terms_in_all (map (tree_at nodes) h.roots)) (terms_in_all (map (tree_at nodes) k.roots)) t (subst (λ (l : List Term). has_term l t ≡ true) (numbers_both nodes h.roots k.roots) g)) as (λ _. has_term (ts ++ terms_told (seen_cond nodes c)) t ≡ true) [
  | inl e ↦ has_left ts (terms_told (seen_cond nodes c)) t (h.inside t e)
  | inr e ↦ has_right ts (terms_told (seen_cond nodes c)) t (subst (λ (l : List Term). has_term l t ≡ true) (all_terms nodes c) (numbers_within nodes k.roots (all_roots c) (behind_some c k.front k.roots k.is) t e))
]

-- all of the condition's terms are gathered
gathered_all : (nodes : List Plain) (c : Cond) (old new : Gathered) (last : List ℕ) (ts : List Term) (k : HasGathered nodes c old new) (h : AreHeld nodes old last ts) → take k.front last ≡ take k.front c.hyps.items
    → IsWithin (terms_told (seen_cond nodes c)) (terms_in_all (map (tree_at nodes) (h.roots ++ k.roots)))
gathered_all nodes c old new last ts k h same t g =
    numbers_within nodes (all_roots c) (h.roots ++ k.roots) (behind_all c k.front last h.roots k.roots k.is same h.held) t (subst (λ (l : List Term). has_term l t ≡ true) (sym (all_terms nodes c)) g)

-- the hypotheses of the condition are held, with what stays
pub bounded_held : (nodes : List Plain) (c : Cond) (old new own : Gathered) (last : List ℕ) (ts : List Term) (k : HasGathered nodes c old new) → take k.front last ≡ take k.front c.hyps.items → AreHeld nodes old last ts
    → IsBounded nodes new c own → AreHeld nodes own c.hyps.items (ts ++ terms_told (seen_cond nodes c))
bounded_held nodes c old new own last ts k same h (inl is) = subst (λ (g : Gathered). AreHeld nodes g c.hyps.items (ts ++ terms_told (seen_cond nodes c))) (sym is.0) (record {
  roots = h.roots ++ k.roots;
  gathered = k.more h.roots h.gathered;
  inside = gathered_inside nodes c old new last ts k h;
  held = λ j g. behind_all c k.front last h.roots k.roots k.is same h.held j (among_left c.hyps.items (roots_of_goal c) j g);
})
bounded_held nodes c old new own last ts k same h (inr gathered) = record {
  roots = all_roots c;
  gathered = gathered;
  inside = λ t g. has_right ts (terms_told (seen_cond nodes c)) t (subst (λ (l : List Term). has_term l t ≡ true) (all_terms nodes c) g);
  held = λ j g. among_left c.hyps.items (roots_of_goal c) j g;
}

not_over : (n : ℕ) → n ≤ spec.most_terms → nat_lt spec.most_terms n ≡ false
not_over n le = le-ltb spec.most_terms n le

-- as many terms are over the limit as the condition has
pub bounded_over : (nodes : List Plain) (c : Cond) (old new own : Gathered) (last : List ℕ) (ts : List Term) (k : HasGathered nodes c old new) → take k.front last ≡ take k.front c.hyps.items → AreHeld nodes old last ts
    → IsBounded nodes new c own → nat_lt spec.most_terms (length own.all.items) ≡ nat_lt spec.most_terms (different (terms_told (seen_cond nodes c)))
bounded_over nodes c old new own last ts k same h (inl is) =
    let count = listed_count nodes (h.roots ++ k.roots) new.all.items (contains nat_eq new.noted) k.one (k.more h.roots h.gathered) in
    let fewer = different_within (terms_told (seen_cond nodes c)) (terms_in_all (map (tree_at nodes) (h.roots ++ k.roots))) (gathered_all nodes c old new last ts k h same) in
    let le = is.1 in
    ap (λ (g : Gathered). nat_lt spec.most_terms (length g.all.items)) is.0
    ∙ not_over (length new.all.items) le ∙ sym (not_over (different (terms_told (seen_cond nodes c))) (omega (arith, count, fewer, le)))
bounded_over nodes c old new own last ts k same h (inr gathered) =
    ap (λ (n : ℕ). nat_lt spec.most_terms n) (listed_count nodes (all_roots c) own.all.items (contains nat_eq own.noted) k.one gathered ∙ ap (λ (l : List Term). different l) (all_terms nodes c))

-- the same terms were seen
counted_as : (nodes : List Plain) (seen : Seen) (ts us : List Term) → IsWithin ts us → IsWithin us ts → IsCounted nodes seen ts → IsCounted nodes seen us
counted_as nodes seen ts us there back c = record {
  noted = c.noted;
  below = c.below;
  apart = c.apart;
  whole = λ t h. c.whole t (back t h);
  inside = λ k h. there (tree_at nodes k) (c.inside k h);
}

-- what stands behind the old numbers
fresh_is : (old fresh new : List ℕ) → new ≡ old ++ fresh → drop (length old) new ≡ fresh
fresh_is old fresh new is = ap (λ (l : List ℕ). drop (length old) l) is ∙ behind old
  where
    behind : (xs : List ℕ) → drop (length xs) (xs ++ fresh) ≡ fresh
    behind [] = refl
    behind (x ∷ xs) = behind xs

-- it names terms
pub fresh_under : (nodes : List Plain) (c : Cond) (old new : Gathered) (last : List ℕ) (ts : List Term) (k : HasGathered nodes c old new) → AreHeld nodes old last ts
    → (fresh : List ℕ) → fresh ≡ drop (length old.all.items) new.all.items → AreUnder (length nodes) fresh
fresh_under nodes c old new last ts k h fresh is j g = (k.more h.roots h.gathered).below j (inl (subst (λ (l : List ℕ). is_among l j ≡ true) (sym k.grown.is) (among_right old.all.items k.grown.fresh j (subst (λ (l : List ℕ). is_among l j ≡ true) (is ∙ fresh_is old.all.items k.grown.fresh new.all.items k.grown.is) g))))

-- what is new among what is gathered was seen, and so all of the condition
gathered_seen : (nodes : List Plain) (seen : Seen) (c : Cond) (old new : Gathered) (last : List ℕ) (ts : List Term) (k : HasGathered nodes c old new) → take k.front last ≡ take k.front c.hyps.items → AreHeld nodes old last ts
    → (fresh : List ℕ) → new.all.items ≡ old.all.items ++ fresh → IsCounted nodes seen (ts ++ map (tree_at nodes) fresh) → IsCounted nodes seen (ts ++ terms_told (seen_cond nodes c))
gathered_seen nodes seen c old new last ts k same h fresh is counted = counted_as nodes seen (ts ++ map (tree_at nodes) fresh) (ts ++ terms_told (seen_cond nodes c)) there back counted
  where
    now : AreGathered nodes (h.roots ++ k.roots) new
    now = k.more h.roots h.gathered

    there : IsWithin (ts ++ map (tree_at nodes) fresh) (ts ++ terms_told (seen_cond nodes c))
    there t g = elim (has_either ts (map (tree_at nodes) fresh) t g) as (λ _. has_term (ts ++ terms_told (seen_cond nodes c)) t ≡ true) [
      | inl e ↦ has_left ts (terms_told (seen_cond nodes c)) t e
      | inr e ↦
          let r = has_named nodes fresh t e in
          let at : is_among new.all.items r.0 ≡ true = subst (λ (l : List ℕ). is_among l r.0 ≡ true) (sym is) (among_right old.all.items fresh r.0 r.1) in
          gathered_inside nodes c old new last ts k h t (subst (λ (x : Term). has_term (terms_in_all (map (tree_at nodes) (h.roots ++ k.roots))) x ≡ true) r.2 (now.inside r.0 (inl at)))
    ]

    back : IsWithin (ts ++ terms_told (seen_cond nodes c)) (ts ++ map (tree_at nodes) fresh)
    back t g = elim (has_either ts (terms_told (seen_cond nodes c)) t g) as (λ _. has_term (ts ++ map (tree_at nodes) fresh) t ≡ true) [
      | inl e ↦ has_left ts (map (tree_at nodes) fresh) t e
      | inr e ↦
          let r = whole nodes (h.roots ++ k.roots) new.all.items (contains nat_eq new.noted) now t (gathered_all nodes c old new last ts k h same t e) in
          elim (among_either old.all.items fresh r.0 (subst (λ (l : List ℕ). is_among l r.0 ≡ true) is r.1)) as (λ _. has_term (ts ++ map (tree_at nodes) fresh) t ≡ true) [
            | inl f ↦ has_left ts (map (tree_at nodes) fresh) t (subst (λ (x : Term). has_term ts x ≡ true) r.2 (h.inside (tree_at nodes r.0) (h.gathered.inside r.0 (inl f))))
            | inr f ↦ has_right ts (map (tree_at nodes) fresh) t (subst (λ (x : Term). has_term (map (tree_at nodes) fresh) x ≡ true) r.2 (named_has nodes fresh r.0 f))
          ]
    ]

pub fresh_seen : (nodes : List Plain) (seen : Seen) (c : Cond) (old new : Gathered) (last : List ℕ) (ts : List Term) (k : HasGathered nodes c old new) → take k.front last ≡ take k.front c.hyps.items → AreHeld nodes old last ts
    → (fresh : List ℕ) → fresh ≡ drop (length old.all.items) new.all.items → IsCounted nodes seen (ts ++ map (tree_at nodes) fresh) → IsCounted nodes seen (ts ++ terms_told (seen_cond nodes c))
fresh_seen nodes seen c old new last ts k same h fresh is counted =
    let e : fresh ≡ k.grown.fresh = is ∙ fresh_is old.all.items k.grown.fresh new.all.items k.grown.is in
    gathered_seen nodes seen c old new last ts k same h fresh (k.grown.is ∙ ap (λ (l : List ℕ). old.all.items ++ l) (sym e)) counted

-- ---- one condition after the other

-- conditions before this one have these terms, and what is gathered holds the hypotheses of the last one; and with the conditions that are left they pass what all do
pub record IsPassing (nodes : List Plain) (seen : Seen) (gathered : Gathered) (last : List ℕ) (k : ℕ) (left : List Cond) (all : spec.Passing) : Type 0 where
  pub before : List Term
  pub counted : IsCounted nodes seen before
  pub held : AreHeld nodes gathered last before
  pub is : passing_told before k (map (seen_cond nodes) left) ≡ all

pub passing_begin : (nodes : List Plain) (seen : Seen) (gathered : Gathered) (last : List ℕ) (conds : List Cond) → last ≡ [] → IsCounted nodes seen [] → AreGathered nodes [] gathered
    → IsPassing nodes seen gathered last 1 conds (passing_told [] 1 (map (seen_cond nodes) conds))
passing_begin nodes seen gathered last conds none c g = subst (λ (l : List ℕ). IsPassing nodes seen gathered l 1 conds (passing_told [] 1 (map (seen_cond nodes) conds))) (sym none) (record {
  before = [];
  counted = c;
  held = record { roots = []; gathered = g; inside = λ t h. h; held = λ k h. h };
  is = refl;
})

-- the condition that comes next
next_is : (nodes : List Plain) (before : List Term) (conds : List Cond) (i : ℕ) (c : Cond) (all : spec.Passing) → i < length conds → c ≡ get_or conds i c → passing_told before (suc i) (map (seen_cond nodes) (drop i conds)) ≡ all
    → passing_told before (suc i) (seen_cond nodes c ∷ map (seen_cond nodes) (drop (i + 1) conds)) ≡ all
next_is nodes before conds i c all lt is so = ap (λ (l : List Cond). passing_told before (suc i) (map (seen_cond nodes) l)) (sym (drop_more conds i c lt ∙ ap (λ (x : Cond). x ∷ drop (i + 1) conds) (sym is))) ∙ so

pub passing_many : (nodes : List Plain) (seen : Seen) (gathered : Gathered) (last : List ℕ) (conds : List Cond) (i : ℕ) (c : Cond) (all : spec.Passing) → i < length conds → c ≡ get_or conds i c → nat_lt spec.most_conditions (suc i) ≡ true
    → IsPassing nodes seen gathered last (suc i) (drop i conds) all → spec.TooMany ≡ all
passing_many nodes seen gathered last conds i c all lt is many inv =
    sym (cond-true (nat_lt spec.most_conditions (suc i)) spec.TooMany _ many) ∙ next_is nodes inv.before conds i c all lt is inv.is

-- not too many up to it
not_many : (nodes : List Plain) (before : List Term) (conds : List Cond) (i : ℕ) (c : Cond) (all : spec.Passing) → i < length conds → c ≡ get_or conds i c → nat_lt spec.most_conditions (suc i) ≡ false → passing_told before (suc i) (map (seen_cond nodes) (drop i conds)) ≡ all
    → (if is_over (different (terms_told (seen_cond nodes c))) (different (before ++ terms_told (seen_cond nodes c))) then spec.TooLarge (suc i) else passing_told (before ++ terms_told (seen_cond nodes c)) (suc (suc i)) (map (seen_cond nodes) (drop (i + 1) conds))) ≡ all
not_many nodes before conds i c all lt is few so = sym (cond-false (nat_lt spec.most_conditions (suc i)) spec.TooMany _ few) ∙ next_is nodes before conds i c all lt is so

over_is : (one all : ℕ) (t : Told) (before : List Term) → nat_lt spec.most_terms one ≡ nat_lt spec.most_terms (different (terms_told t)) → all ≡ different (before ++ terms_told t) → (over : Bool) → over ≡ is_over one all → is_over (different (terms_told t)) (different (before ++ terms_told t)) ≡ over
over_is one all t before one_is all_is over is = sym (is ∙ ap (λ (b : Bool). b || nat_lt spec.most_terms_in_all all) one_is ∙ ap (λ (n : ℕ). is_over (different (terms_told t)) n) all_is)

-- what the code knows of a condition that was counted
pub record HasCounted (nodes : List Plain) (a b : Seen) (old new : Gathered) (c : Cond) (last : List ℕ) (one total : ℕ) (over : Bool) : Type 0 where
  pub holds : (ts : List Term) → AreHeld nodes old last ts → AreHeld nodes new c.hyps.items (ts ++ terms_told (seen_cond nodes c))
  pub sees : (ts : List Term) → AreHeld nodes old last ts → IsCounted nodes a ts → IsCounted nodes b (ts ++ terms_told (seen_cond nodes c))
  pub one_over : (ts : List Term) → AreHeld nodes old last ts → nat_lt spec.most_terms one ≡ nat_lt spec.most_terms (different (terms_told (seen_cond nodes c)))
  pub total_is : (ts : List Term) → IsCounted nodes b ts → total ≡ different ts
  pub over_is : over ≡ is_over one total

pub passing_large : (nodes : List Plain) (a b : Seen) (old new : Gathered) (conds : List Cond) (i : ℕ) (c : Cond) (last : List ℕ) (one total : ℕ) (over : Bool) (all : spec.Passing) → i < length conds → c ≡ get_or conds i c → nat_lt spec.most_conditions (suc i) ≡ false
    → HasCounted nodes a b old new c last one total over → over ≡ true → IsPassing nodes a old last (suc i) (drop i conds) all → spec.TooLarge (suc i) ≡ all
passing_large nodes a b old new conds i c last one total over all lt is few k is_true inv =
    let T = seen_cond nodes c in
    let now = k.sees inv.before inv.held inv.counted in
    sym (cond-true (is_over (different (terms_told T)) (different (inv.before ++ terms_told T))) (spec.TooLarge (suc i)) _ (over_is one total T inv.before (k.one_over inv.before inv.held) (k.total_is (inv.before ++ terms_told T) now) over k.over_is ∙ is_true))
    ∙ not_many nodes inv.before conds i c all lt is few inv.is

pub passing_turn : (nodes : List Plain) (a b : Seen) (old new : Gathered) (conds : List Cond) (i : ℕ) (c : Cond) (last hyps : List ℕ) (one total : ℕ) (over : Bool) (all : spec.Passing) → i < length conds → c ≡ get_or conds i c → nat_lt spec.most_conditions (suc i) ≡ false
    → HasCounted nodes a b old new c last one total over → over ≡ false → hyps ≡ c.hyps.items → IsPassing nodes a old last (suc i) (drop i conds) all → IsPassing nodes b new hyps (suc (i + 1)) (drop (i + 1) conds) all
passing_turn nodes a b old new conds i c last hyps one total over all lt is few k is_false hyps_is inv =
    let T = seen_cond nodes c in
    let next : suc (i + 1) ≡ suc (suc i) = omega arith in
    let now = k.sees inv.before inv.held inv.counted in
    subst (λ (l : List ℕ). IsPassing nodes b new l (suc (i + 1)) (drop (i + 1) conds) all) (sym hyps_is) (record {
      before = inv.before ++ terms_told T;
      counted = now;
      held = k.holds inv.before inv.held;
      is = ap (λ (n : ℕ). passing_told (inv.before ++ terms_told T) n (map (seen_cond nodes) (drop (i + 1) conds))) next
          ∙ sym (cond-false (is_over (different (terms_told T)) (different (inv.before ++ terms_told T))) (spec.TooLarge (suc i)) _ (over_is one total T inv.before (k.one_over inv.before inv.held) (k.total_is (inv.before ++ terms_told T) now) over k.over_is ∙ is_false))
          ∙ not_many nodes inv.before conds i c all lt is few inv.is;
    })

pub passing_end : (nodes : List Plain) (seen : Seen) (gathered : Gathered) (last : List ℕ) (conds : List Cond) (i : ℕ) (all : spec.Passing) → length conds ≤ i → IsPassing nodes seen gathered last (suc i) (drop i conds) all → spec.Within ≡ all
passing_end nodes seen gathered last conds i all past inv = ap (λ (l : List Cond). passing_told inv.before (suc i) (map (seen_cond nodes) l)) (sym (drop_all i conds past)) ∙ inv.is

-- the condition that comes next has numbers of terms
pub cond_at : (nodes : List Plain) (conds : List Cond) (i : ℕ) (c : Cond) → i < length conds → c ≡ get_or conds i c → All (IsCond nodes) conds → IsCond nodes c
cond_at nodes conds i c lt is are = subst (λ (x : Cond). IsCond nodes x) (sym is) (All-get_or (IsCond nodes) conds i c lt are)
