-- The list of what terms are made of.
use Rattle.std.proofs.Common.{◌≡◌, ◌⊎◌, inl, inr, ℕ, zero, suc, ◌<◌, ◌↔◌, List, [], ◌∷◌, ◌++◌, All, length, Bool, true, false, map, Some, Option, sym, ap, subst, ◌∙◌, arith}
use Rattle.std.specs.Prelude.{option_to_list, if◌then◌else◌}
use Rattle.std.proofs.Math.Dec.{eqb}
use Rattle.std.proofs.lemmas.List.{append-nil, append_assoc}
use Rattle.std.proofs.lemmas.Bool.{or_cases, or_left, cases_Bool, cond-true, cond-false, both_ways}
use Rattle.wy_lemmas.proofs.Choices.{same_test}
use Rattle.wy_term.specs.Term.{Term, Of}
use Rattle.wy_term.specs.Nodes.{Plain, grown, parts_at, tree_at, HasPartsBelow}
use Rattle.wy_vc_spec.specs.Limits.{different, has_term, is_among, terms_in, terms_in_parts, terms_in_all}
use Rattle.wy_vc.specs.Gathered.{Grown}
use Rattle.wy_vc.specs.Shared.{AreUnder, IsKnown, IsListed, IsMadeOf}
use Rattle.wy_vc.proofs.AmongLemmas.{among_first, among_cases, among_left, among_right, among_either, has_cases, has_more, further_all, part_in, in_part, root_in, in_root}
use Rattle.wy_vc.proofs.CountLemmas.{apart_push, counted}

-- ---- numbers below a bound

among_below : (ks : List ℕ) (bound k : ℕ) → All (λ n. n < bound) ks → is_among ks k ≡ true → k < bound
among_below [] bound k below h = absurd cc
among_below (n ∷ ks) bound k below h = elim (among_cases n ks k h) as (λ _. k < bound) [
  | inl e ↦ subst (λ (x : ℕ). x < bound) e (below 0 n (omega arith))
  | inr g ↦ among_below ks bound k (λ i d lt. below (suc i) d (omega (arith, lt))) g
]

-- ---- the start and the end

pub begun : (nodes : List Plain) (roots : List ℕ) (noted : ℕ → Bool) → ((k : ℕ) → is_among roots k ≡ true → k < length nodes) → ((k : ℕ) → noted k ≡ false) → IsListed nodes roots [] noted roots
begun nodes roots noted below none = record {
  same = none;
  apart = tt;
  below = λ k h. elim h as (λ _. k < length nodes) [ inl e ↦ absurd cc | inr e ↦ below k e ];
  inside = λ k h. elim h as (λ _. has_term (terms_in_all (map (tree_at nodes) roots)) (tree_at nodes k) ≡ true) [ inl e ↦ absurd cc | inr e ↦ root_in (tree_at nodes) roots k e ];
  made = λ k h. absurd cc;
  begun = λ k h. inr h;
}

-- nothing was gathered
pub none_gathered : (nodes : List Plain) (all : List ℕ) (noted : ℕ → Bool) → all ≡ [] → ((k : ℕ) → noted k ≡ false) → IsListed nodes [] all noted []
none_gathered nodes all noted empty none = subst (λ (l : List ℕ). IsListed nodes [] l noted []) (sym empty) (begun nodes [] noted (λ k h. absurd cc) none)

-- what is known, with nothing left, is listed
only_listed : (all : List ℕ) (k : ℕ) → IsKnown all [] k → is_among all k ≡ true
only_listed all k (inl e) = e
only_listed all k (inr e) = absurd cc

-- more roots are to be listed behind what is listed
pub extended : (nodes : List Plain) (roots more all todo : List ℕ) (noted : ℕ → Bool) → AreUnder (length nodes) more → todo ≡ more → IsListed nodes roots all noted [] → IsListed nodes (roots ++ more) all noted todo
extended nodes roots more all todo noted under is listed = subst (λ (l : List ℕ). IsListed nodes (roots ++ more) all noted l) (sym is) (record {
  same = listed.same;
  apart = listed.apart;
  below = λ k h. elim h as (λ _. k < length nodes) [ inl e ↦ listed.below k (inl e) | inr e ↦ under k e ];
  inside = λ k h. elim h as (λ _. has_term (terms_in_all (map (tree_at nodes) (roots ++ more))) (tree_at nodes k) ≡ true) [
    | inl e ↦ roots_wider k (listed.inside k (inl e))
    | inr e ↦ root_in (tree_at nodes) (roots ++ more) k (among_right roots more k e)
  ];
  made = λ k h. let m = listed.made k h in record { symbol = m.symbol; parts = m.parts; tree = m.tree; less = m.less; known = λ p g. inl (only_listed all p (m.known p g)) };
  begun = λ k h. elim (among_either roots more k h) as (λ _. IsKnown all more k) [ inl e ↦ inl (only_listed all k (listed.begun k e)) | inr e ↦ inr e ];
})
  where
    roots_wider : (k : ℕ) → has_term (terms_in_all (map (tree_at nodes) roots)) (tree_at nodes k) ≡ true → has_term (terms_in_all (map (tree_at nodes) (roots ++ more))) (tree_at nodes k) ≡ true
    roots_wider k h =
        let r = in_root (tree_at nodes) roots (tree_at nodes k) h in
        further_all (map (tree_at nodes) (roots ++ more)) (tree_at nodes r.0) (tree_at nodes k) (root_in (tree_at nodes) (roots ++ more) r.0 (among_left roots more r.0 r.1)) r.2

-- each term that a listed one is made of is listed
covers : (nodes : List Plain) (roots all : List ℕ) (noted : ℕ → Bool) → IsListed nodes roots all noted [] → (bound k : ℕ) → k < bound → is_among all k ≡ true → (t : Term) → has_term (terms_in (tree_at nodes k)) t ≡ true → (j : ℕ) × (is_among all j ≡ true) × (tree_at nodes j ≡ t)
covers nodes roots all noted listed zero k lt here t h = absurd (omega (arith, lt))
covers nodes roots all noted listed (suc bound) k lt here t h =
    let m = listed.made k here in
    let inside : has_term (terms_in (Of m.symbol (parts_at (tree_at nodes) m.parts))) t ≡ true = subst (λ (x : Term). has_term (terms_in x) t ≡ true) m.tree h in
    elim (has_cases (Of m.symbol (parts_at (tree_at nodes) m.parts)) (terms_in_parts (parts_at (tree_at nodes) m.parts)) t inside) as (λ _. (j : ℕ) × (is_among all j ≡ true) × (tree_at nodes j ≡ t)) [
      | inl e ↦ (k, here, m.tree ∙ e)
      | inr g ↦
          let r = in_part (tree_at nodes) m.parts t g in
          let less : r.0 < k = m.less r.0 r.1 in
          covers nodes roots all noted listed bound r.0 (omega (arith, less, lt)) (only_listed all r.0 (m.known r.0 r.1)) t r.2
    ]

pub whole : (nodes : List Plain) (roots all : List ℕ) (noted : ℕ → Bool) → IsListed nodes roots all noted [] → (t : Term) → has_term (terms_in_all (map (tree_at nodes) roots)) t ≡ true → (j : ℕ) × (is_among all j ≡ true) × (tree_at nodes j ≡ t)
whole nodes roots all noted listed t h =
    let r = in_root (tree_at nodes) roots t h in
    covers nodes roots all noted listed (suc r.0) r.0 (omega arith) (only_listed all r.0 (listed.begun r.0 r.1)) t r.2

-- two numbers of one term are one
abbrev pub OneEach : List Plain → Type 0
OneEach nodes = (s t : ℕ) → s < length nodes → t < length nodes → ((s ≡ t) ↔ (tree_at nodes s ≡ tree_at nodes t))

pub listed_count : (nodes : List Plain) (roots all : List ℕ) (noted : ℕ → Bool) → OneEach nodes → IsListed nodes roots all noted [] → length all ≡ different (terms_in_all (map (tree_at nodes) roots))
listed_count nodes roots all noted one listed = sym (counted (tree_at nodes) all (terms_in_all (map (tree_at nodes) roots)) (record {
  apart = listed.apart;
  one = λ i j a b e. (one i j (listed.below i (inl a)) (listed.below j (inl b))).1 e;
  whole = λ t h. whole nodes roots all noted listed t h;
  inside = λ j h. listed.inside j (inl h);
}))

pub listed_value : (nodes : List Plain) (roots all : List ℕ) (noted : ℕ → Bool) → OneEach nodes → IsListed nodes roots all noted [] → (k : ℕ) → k < length nodes → is_among all k ≡ has_term (terms_in_all (map (tree_at nodes) roots)) (tree_at nodes k)
listed_value nodes roots all noted one listed k lt = same_test (is_among all k) (has_term (terms_in_all (map (tree_at nodes) roots)) (tree_at nodes k)) (λ h. listed.inside k (inl h)) back
  where
    back : has_term (terms_in_all (map (tree_at nodes) roots)) (tree_at nodes k) ≡ true → is_among all k ≡ true
    back h =
        let r = whole nodes roots all noted listed (tree_at nodes k) h in
        subst (λ (x : ℕ). is_among all x ≡ true) ((one r.0 k (listed.below r.0 (inl r.1)) lt).1 r.2) r.1

-- ---- one that was listed before

known_shift : (all todo : List ℕ) (t k : ℕ) → is_among all t ≡ true → IsKnown all (todo ++ t ∷ []) k → IsKnown all todo k
known_shift all todo t k here (inl e) = inl e
known_shift all todo t k here (inr e) = elim (among_either todo (t ∷ []) k e) as (λ _. IsKnown all todo k) [
  | inl f ↦ inr f
  | inr f ↦ elim (among_cases t [] k f) as (λ _. IsKnown all todo k) [ inl is ↦ inl (subst (λ (x : ℕ). is_among all x ≡ true) is here) | inr g ↦ absurd cc ]
]

known_wider : (all todo : List ℕ) (t k : ℕ) → IsKnown all todo k → IsKnown all (todo ++ t ∷ []) k
known_wider all todo t k (inl e) = inl e
known_wider all todo t k (inr e) = inr (among_left todo (t ∷ []) k e)

pub passed_over : (nodes : List Plain) (roots all todo : List ℕ) (noted : ℕ → Bool) (t : ℕ) → noted t ≡ true → IsListed nodes roots all noted (todo ++ t ∷ []) → IsListed nodes roots all noted todo
passed_over nodes roots all todo noted t is listed = record {
  same = listed.same;
  apart = listed.apart;
  below = λ k h. listed.below k (known_wider all todo t k h);
  inside = λ k h. listed.inside k (known_wider all todo t k h);
  made = λ k h. let m = listed.made k h in record { symbol = m.symbol; parts = m.parts; tree = m.tree; less = m.less; known = λ p g. known_shift all todo t p here (m.known p g) };
  begun = λ k h. known_shift all todo t k here (listed.begun k h);
}
  where
    here : is_among all t ≡ true
    here = sym (listed.same t) ∙ is

-- ---- one more

-- what was known stays known
known_more : (all todo ks : List ℕ) (t k : ℕ) → IsKnown all (todo ++ t ∷ []) k → IsKnown (all ++ t ∷ []) (todo ++ ks) k
known_more all todo ks t k (inl e) = inl (among_left all (t ∷ []) k e)
known_more all todo ks t k (inr e) = elim (among_either todo (t ∷ []) k e) as (λ _. IsKnown (all ++ t ∷ []) (todo ++ ks) k) [
  | inl f ↦ inr (among_left todo ks k f)
  | inr f ↦ inl (among_right all (t ∷ []) k f)
]

-- what is known now was known, or is a part of the new one
known_from : (all todo ks : List ℕ) (t k : ℕ) → IsKnown (all ++ t ∷ []) (todo ++ ks) k → IsKnown all (todo ++ t ∷ []) k ⊎ (is_among ks k ≡ true)
known_from all todo ks t k (inl e) = elim (among_either all (t ∷ []) k e) as (λ _. IsKnown all (todo ++ t ∷ []) k ⊎ (is_among ks k ≡ true)) [
  | inl f ↦ inl (inl f)
  | inr f ↦ inl (inr (among_right todo (t ∷ []) k f))
]
known_from all todo ks t k (inr e) = elim (among_either todo ks k e) as (λ _. IsKnown all (todo ++ t ∷ []) k ⊎ (is_among ks k ≡ true)) [
  | inl f ↦ inl (inr (among_left todo (t ∷ []) k f))
  | inr f ↦ inr f
]

pub one_listed : (nodes : List Plain) (roots all todo : List ℕ) (noted after : ℕ → Bool) (t : ℕ) (n : Plain) (ks more left : List ℕ) → t < length nodes → tree_at nodes t ≡ grown (tree_at nodes) n → HasPartsBelow t n → ks ≡ n.parts
    → noted t ≡ false → ((k : ℕ) → after k ≡ (if eqb t k then true else noted k)) → more ≡ all ++ t ∷ [] → left ≡ todo ++ ks
    → IsListed nodes roots all noted (todo ++ t ∷ []) → IsListed nodes roots more after left
one_listed nodes roots all todo noted after t n ks more left lt tree low parts new puts pushed joined listed =
    subst (λ (l : List ℕ). IsListed nodes roots l after left) (sym pushed) (subst (λ (l : List ℕ). IsListed nodes roots (all ++ t ∷ []) after l) (sym joined) (record {
      same = same;
      apart = apart_push all t listed.apart (sym (listed.same t) ∙ new);
      below = λ k h. elim (known_from all todo ks t k h) as (λ _. k < length nodes) [ inl f ↦ listed.below k f | inr f ↦ let l = lower k f in omega (arith, l, lt) ];
      inside = λ k h. elim (known_from all todo ks t k h) as (λ _. has_term (terms_in_all (map (tree_at nodes) roots)) (tree_at nodes k) ≡ true) [ inl f ↦ listed.inside k f | inr f ↦ part k f ];
      made = made;
      begun = λ k h. known_more all todo ks t k (listed.begun k h);
    }))
  where
    lower : (k : ℕ) → is_among ks k ≡ true → k < t
    lower k h = among_below n.parts t k low (subst (λ (l : List ℕ). is_among l k ≡ true) parts h)

    here : has_term (terms_in_all (map (tree_at nodes) roots)) (tree_at nodes t) ≡ true
    here = listed.inside t (inr (among_right todo (t ∷ []) t (among_first t [])))

    whole_of : tree_at nodes t ≡ Of n.symbol (parts_at (tree_at nodes) ks)
    whole_of = tree ∙ ap (λ (l : List ℕ). Of n.symbol (parts_at (tree_at nodes) l)) (sym parts)

    part : (k : ℕ) → is_among ks k ≡ true → has_term (terms_in_all (map (tree_at nodes) roots)) (tree_at nodes k) ≡ true
    part k h =
        further_all (map (tree_at nodes) roots) (tree_at nodes t) (tree_at nodes k) here
        (subst (λ (x : Term). has_term (terms_in x) (tree_at nodes k) ≡ true) (sym whole_of) (has_more (Of n.symbol (parts_at (tree_at nodes) ks)) (terms_in_parts (parts_at (tree_at nodes) ks)) (tree_at nodes k) (part_in (tree_at nodes) ks k h)))

    same : (k : ℕ) → after k ≡ is_among (all ++ t ∷ []) k
    same k = same_test (after k) (is_among (all ++ t ∷ []) k) forth back
      where
        forth : after k ≡ true → is_among (all ++ t ∷ []) k ≡ true
        forth h = elim (cases_Bool (eqb t k)) as (λ _. is_among (all ++ t ∷ []) k ≡ true) [
          | inl e ↦ among_right all (t ∷ []) k (or_left (eqb t k) (is_among [] k) e)
          | inr e ↦ among_left all (t ∷ []) k (sym (listed.same k) ∙ (sym (cond-false (eqb t k) true (noted k) e) ∙ (sym (puts k) ∙ h)))
        ]

        back : is_among (all ++ t ∷ []) k ≡ true → after k ≡ true
        back h = elim (cases_Bool (eqb t k)) as (λ _. after k ≡ true) [
          | inl e ↦ puts k ∙ cond-true (eqb t k) true (noted k) e
          | inr e ↦ elim (among_either all (t ∷ []) k h) as (λ _. after k ≡ true) [
            | inl g ↦ puts k ∙ (cond-false (eqb t k) true (noted k) e ∙ (listed.same k ∙ g))
            | inr g ↦ absurd (elim (or_cases (eqb t k) (is_among [] k) g) as (λ _. ⊥) [ inl f ↦ both_ways (eqb t k) e f | inr f ↦ cc ])
          ]
        ]

    made : (k : ℕ) → is_among (all ++ t ∷ []) k ≡ true → IsMadeOf nodes (all ++ t ∷ []) (todo ++ ks) k
    made k h = elim (among_either all (t ∷ []) k h) as (λ _. IsMadeOf nodes (all ++ t ∷ []) (todo ++ ks) k) [
      | inl g ↦ let m = listed.made k g in record { symbol = m.symbol; parts = m.parts; tree = m.tree; less = m.less; known = λ p f. known_more all todo ks t p (m.known p f) }
      | inr g ↦ elim (among_cases t [] k g) as (λ _. IsMadeOf nodes (all ++ t ∷ []) (todo ++ ks) k) [
        | inl is ↦ subst (λ (x : ℕ). IsMadeOf nodes (all ++ t ∷ []) (todo ++ ks) x) is (record { symbol = n.symbol; parts = ks; tree = whole_of; less = lower; known = λ p f. inr (among_right todo ks p f) })
        | inr f ↦ absurd cc
      ]
    ]

-- ---- what is taken from the end

pub taken : (old new : List ℕ) (t : ℕ) (o : Option ℕ) → old ≡ new ++ option_to_list o → o ≡ Some t → old ≡ new ++ t ∷ []
taken old new t o e is = e ∙ ap (λ (x : Option ℕ). new ++ option_to_list x) is

pub taken_under : (bound : ℕ) (old new : List ℕ) (t : ℕ) → old ≡ new ++ t ∷ [] → AreUnder bound old → t < bound
taken_under bound old new t same under = under t (subst (λ (l : List ℕ). is_among l t ≡ true) (sym same) (among_right new (t ∷ []) t (among_first t [])))

pub left_under : (bound : ℕ) (old new : List ℕ) (t : ℕ) → old ≡ new ++ t ∷ [] → AreUnder bound old → AreUnder bound new
left_under bound old new t same under k h = under k (subst (λ (l : List ℕ). is_among l k ≡ true) (sym same) (among_left new (t ∷ []) k h))

-- the parts of a term come behind what is to be listed
pub parts_under : (bound : ℕ) (old new parts : List ℕ) (t : ℕ) (ps : List ℕ) → t < bound → All (λ n. n < t) ps → parts ≡ ps → new ≡ old ++ parts → AreUnder bound old → AreUnder bound new
parts_under bound old new parts t ps lt low same joined under k h = elim (among_either old parts k (subst (λ (l : List ℕ). is_among l k ≡ true) joined h)) as (λ _. k < bound) [
  | inl e ↦ under k e
  | inr e ↦ let l = among_below ps t k low (subst (λ (l : List ℕ). is_among l k ≡ true) same e) in omega (arith, l, lt)
]

-- ---- what grows

pub grown_none : (xs : List ℕ) → Grown xs xs
grown_none xs = record { fresh = []; is = sym (append-nil xs) }

pub grown_one : (old new : List ℕ) (t : ℕ) → new ≡ old ++ t ∷ [] → Grown old new
grown_one old new t is = record { fresh = t ∷ []; is = is }

pub grown_more : (a b c : List ℕ) → Grown a b → Grown b c → Grown a c
grown_more a b c first second = record { fresh = first.fresh ++ second.fresh; is = second.is ∙ (ap (λ (l : List ℕ). l ++ second.fresh) first.is ∙ append_assoc a first.fresh second.fresh) }

pub none_left : (nodes : List Plain) (roots all : List ℕ) (noted : ℕ → Bool) (old : List ℕ) → old ≡ [] → IsListed nodes roots all noted old → IsListed nodes roots all noted []
none_left nodes roots all noted old e listed = subst (λ (l : List ℕ). IsListed nodes roots all noted l) e listed
