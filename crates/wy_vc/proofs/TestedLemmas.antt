-- The tests in terms are those of the terms that they are made of.
use Rattle.std.proofs.Common.{◌≡◌, ◌⊎◌, inl, inr, Bool, false, Option, Some, None, is_some, ℕ, zero, suc, ◌+◌, ◌<◌, List, [], ◌∷◌, ◌++◌, length, drop, take, get_or, true, map, Result, Ok, Err, IfOk, Vec, refl, sym, ap, subst, ◌∙◌, arith}
use Rattle.std.proofs.lemmas.List.{drop_more, take_more, append_assoc}
use Rattle.wy_lemmas.proofs.Choices.{same_test}
use Rattle.wy_term.specs.Term as symbols
use Rattle.wy_term.specs.Term.{Symbol, Term, Of, Parts, no_parts, part}
use Rattle.wy_term.specs.Nodes.{Plain, grown, parts_at, tree_at}
use Rattle.wy_vc_spec.specs.Limits.{has_term, is_among, terms_in, terms_in_parts, terms_in_all, tests_in, tests_in_parts, tests_in_all}
use Rattle.wy_vc.specs.Shared.{IsNamed}
use Rattle.wy_vc.specs.Tested.{AreQuiet, listed_if, symbol_of, type_of, types_at}
use Rattle.wy_vc.proofs.AmongLemmas.{among_first, among_more, among_cases, among_left, among_right, among_either, has_cases, has_either, has_first, has_left, has_more, has_right}

-- the tests of a term are its own, if it is one, and those of its parts
own_first : (symbol : Symbol) (ps : Parts) → tests_in (Of symbol ps) ≡ listed_if (type_of symbol) ++ tests_in_parts ps
own_first (symbols.number z) ps = refl
own_first (symbols.int_name word n) ps = refl
own_first symbols.add ps = refl
own_first symbols.sub ps = refl
own_first symbols.neg ps = refl
own_first symbols.mul ps = refl
own_first symbols.div ps = refl
own_first symbols.rem ps = refl
own_first symbols.num ps = refl
own_first symbols.len ps = refl
own_first (symbols.val_name word n) ps = refl
own_first symbols.null ps = refl
own_first (symbols.truth b) ps = refl
own_first symbols.int ps = refl
own_first symbols.bool ps = refl
own_first symbols.array ps = refl
own_first symbols.repeat ps = refl
own_first symbols.update ps = refl
own_first symbols.get ps = refl
own_first (symbols.fields names) ps = refl
own_first (symbols.field name) ps = refl
own_first (symbols.set_field name) ps = refl
own_first symbols.at_most ps = refl
own_first symbols.equal ps = refl
own_first (symbols.of_kind k) ps = refl
own_first (symbols.in_type n) ps = refl
own_first (symbols.every word n) ps = refl
own_first (symbols.exists word n) ps = refl
own_first symbols.denied ps = refl
own_first symbols.all_of ps = refl
own_first symbols.any_of ps = refl

-- a term tests this type itself
abbrev Tests : Term → ℕ → Type 0
Tests t n = is_among (listed_if (type_of (symbol_of t))) n ≡ true

-- of these terms one tests the type
abbrev Someone : List Term → ℕ → Type 0
Someone ts n = (t : Term) × (has_term ts t ≡ true) × Tests t n

-- ---- from tests to terms

mutual
  found_in : (t : Term) (n : ℕ) → is_among (tests_in t) n ≡ true → Someone (terms_in t) n
  found_in (Of symbol ps) n h = elim (among_either (listed_if (type_of symbol)) (tests_in_parts ps) n (subst (λ (l : List ℕ). is_among l n ≡ true) (own_first symbol ps) h)) as (λ _. Someone (terms_in (Of symbol ps)) n) [
    | inl e ↦ (Of symbol ps, has_first (Of symbol ps) (terms_in_parts ps), e)
    | inr e ↦ let r = found_parts ps n e in (r.0, has_more (Of symbol ps) (terms_in_parts ps) r.0 r.1, r.2)
  ]

  found_parts : (ps : Parts) (n : ℕ) → is_among (tests_in_parts ps) n ≡ true → Someone (terms_in_parts ps) n
  found_parts no_parts n h = absurd cc
  found_parts (part t ps) n h = elim (among_either (tests_in t) (tests_in_parts ps) n h) as (λ _. Someone (terms_in t ++ terms_in_parts ps) n) [
    | inl e ↦ let r = found_in t n e in (r.0, has_left (terms_in t) (terms_in_parts ps) r.0 r.1, r.2)
    | inr e ↦ let r = found_parts ps n e in (r.0, has_right (terms_in t) (terms_in_parts ps) r.0 r.1, r.2)
  ]

found_all : (ts : List Term) (n : ℕ) → is_among (tests_in_all ts) n ≡ true → Someone (terms_in_all ts) n
found_all [] n h = absurd cc
found_all (t ∷ ts) n h = elim (among_either (tests_in t) (tests_in_all ts) n h) as (λ _. Someone (terms_in t ++ terms_in_all ts) n) [
  | inl e ↦ let r = found_in t n e in (r.0, has_left (terms_in t) (terms_in_all ts) r.0 r.1, r.2)
  | inr e ↦ let r = found_all ts n e in (r.0, has_right (terms_in t) (terms_in_all ts) r.0 r.1, r.2)
]

-- ---- from terms to tests

own_test : (u : Term) (n : ℕ) → Tests u n → is_among (tests_in u) n ≡ true
own_test (Of symbol ps) n h = subst (λ (l : List ℕ). is_among l n ≡ true) (sym (own_first symbol ps)) (among_left (listed_if (type_of symbol)) (tests_in_parts ps) n h)

mutual
  tested_in : (t u : Term) (n : ℕ) → has_term (terms_in t) u ≡ true → Tests u n → is_among (tests_in t) n ≡ true
  tested_in (Of symbol ps) u n h e = elim (has_cases (Of symbol ps) (terms_in_parts ps) u h) as (λ _. is_among (tests_in (Of symbol ps)) n ≡ true) [
    | inl is ↦ subst (λ (x : Term). is_among (tests_in x) n ≡ true) (sym is) (own_test u n e)
    | inr g ↦ subst (λ (l : List ℕ). is_among l n ≡ true) (sym (own_first symbol ps)) (among_right (listed_if (type_of symbol)) (tests_in_parts ps) n (tested_parts ps u n g e))
  ]

  tested_parts : (ps : Parts) (u : Term) (n : ℕ) → has_term (terms_in_parts ps) u ≡ true → Tests u n → is_among (tests_in_parts ps) n ≡ true
  tested_parts no_parts u n h e = absurd cc
  tested_parts (part t ps) u n h e = elim (has_either (terms_in t) (terms_in_parts ps) u h) as (λ _. is_among (tests_in t ++ tests_in_parts ps) n ≡ true) [
    | inl g ↦ among_left (tests_in t) (tests_in_parts ps) n (tested_in t u n g e)
    | inr g ↦ among_right (tests_in t) (tests_in_parts ps) n (tested_parts ps u n g e)
  ]

tested_all : (ts : List Term) (u : Term) (n : ℕ) → has_term (terms_in_all ts) u ≡ true → Tests u n → is_among (tests_in_all ts) n ≡ true
tested_all [] u n h e = absurd cc
tested_all (t ∷ ts) u n h e = elim (has_either (terms_in t) (terms_in_all ts) u h) as (λ _. is_among (tests_in t ++ tests_in_all ts) n ≡ true) [
  | inl g ↦ among_left (tests_in t) (tests_in_all ts) n (tested_in t u n g e)
  | inr g ↦ among_right (tests_in t) (tests_in_all ts) n (tested_all ts u n g e)
]

-- ---- numbers

types_of_one : (nodes : List Plain) (ks : List ℕ) (k n : ℕ) → is_among ks k ≡ true → Tests (tree_at nodes k) n → is_among (types_at nodes ks) n ≡ true
types_of_one nodes [] k n h e = absurd cc
types_of_one nodes (j ∷ ks) k n h e = elim (among_cases j ks k h) as (λ _. is_among (types_at nodes (j ∷ ks)) n ≡ true) [
  | inl is ↦ among_left (listed_if (type_of (symbol_of (tree_at nodes j)))) (types_at nodes ks) n (subst (λ (x : ℕ). Tests (tree_at nodes x) n) (sym is) e)
  | inr g ↦ among_right (listed_if (type_of (symbol_of (tree_at nodes j)))) (types_at nodes ks) n (types_of_one nodes ks k n g e)
]

one_of_types : (nodes : List Plain) (ks : List ℕ) (n : ℕ) → is_among (types_at nodes ks) n ≡ true → (k : ℕ) × (is_among ks k ≡ true) × Tests (tree_at nodes k) n
one_of_types nodes [] n h = absurd cc
one_of_types nodes (j ∷ ks) n h = elim (among_either (listed_if (type_of (symbol_of (tree_at nodes j)))) (types_at nodes ks) n h) as (λ _. (k : ℕ) × (is_among (j ∷ ks) k ≡ true) × Tests (tree_at nodes k) n) [
  | inl e ↦ (j, among_first j ks, e)
  | inr e ↦ let r = one_of_types nodes ks n e in (r.0, among_more j ks r.0 r.1, r.2)
]

-- what is listed are the types that the roots test
types_are : (nodes : List Plain) (roots all types : List ℕ) → types ≡ types_at nodes all → ((k : ℕ) → is_among all k ≡ true → k < length nodes)
    → ((k : ℕ) → k < length nodes → is_among all k ≡ has_term (terms_in_all (map (tree_at nodes) roots)) (tree_at nodes k))
    → ((t : Term) → has_term (terms_in_all (map (tree_at nodes) roots)) t ≡ true → IsNamed nodes all t)
    → (n : ℕ) → is_among types n ≡ is_among (tests_in_all (map (tree_at nodes) roots)) n
types_are nodes roots all types is below value whole n =
    ap (λ (l : List ℕ). is_among l n) is ∙ same_test (is_among (types_at nodes all) n) (is_among (tests_in_all (map (tree_at nodes) roots)) n) forth back
  where
    forth : is_among (types_at nodes all) n ≡ true → is_among (tests_in_all (map (tree_at nodes) roots)) n ≡ true
    forth h =
        let r = one_of_types nodes all n h in
        tested_all (map (tree_at nodes) roots) (tree_at nodes r.0) n (sym (value r.0 (below r.0 r.1)) ∙ r.1) r.2

    back : is_among (tests_in_all (map (tree_at nodes) roots)) n ≡ true → is_among (types_at nodes all) n ≡ true
    back h =
        let r = found_all (map (tree_at nodes) roots) n h in
        let k = whole r.0 r.1 in
        types_of_one nodes all k.0 n k.1 (subst (λ (t : Term). Tests t n) (sym k.2) r.2)

-- ---- the loop

pub among_at : (ks : List ℕ) (i : ℕ) → i < length ks → is_among ks (get_or ks i 0) ≡ true
among_at [] i lt = absurd (omega (arith, lt))
among_at (k ∷ ks) zero lt = among_first k ks
among_at (k ∷ ks) (suc i) lt = among_more k ks (get_or ks i 0) (among_at ks i (omega (arith, lt)))

-- the types of one term more
pub types_turn : (nodes : List Plain) (ks : List ℕ) (i : ℕ) (old new all : List ℕ) → i < length ks → new ≡ old ++ listed_if (type_of (symbol_of (tree_at nodes (get_or ks i 0)))) → old ++ types_at nodes (drop i ks) ≡ all
    → new ++ types_at nodes (drop (i + 1) ks) ≡ all
types_turn nodes ks i old new all lt is so =
    ap (λ (l : List ℕ). l ++ types_at nodes (drop (i + 1) ks)) is
    ∙ (append_assoc old (listed_if (type_of (symbol_of (tree_at nodes (get_or ks i 0))))) (types_at nodes (drop (i + 1) ks))
    ∙ (ap (λ (l : List ℕ). old ++ types_at nodes l) (sym (drop_more ks i 0 lt)) ∙ so))

pub types_if : {E Z : Type 0} (nodes : List Plain) (roots all slice : List ℕ) (result : Result (Vec ℕ Z) E) → slice ≡ all → IfOk result (λ ns. ns.items ≡ types_at nodes slice)
    → ((k : ℕ) → is_among all k ≡ true → k < length nodes)
    → ((k : ℕ) → k < length nodes → is_among all k ≡ has_term (terms_in_all (map (tree_at nodes) roots)) (tree_at nodes k))
    → ((t : Term) → has_term (terms_in_all (map (tree_at nodes) roots)) t ≡ true → IsNamed nodes all t)
    → IfOk result (λ ns. (n : ℕ) → is_among ns.items n ≡ is_among (tests_in_all (map (tree_at nodes) roots)) n)
types_if nodes roots all slice (Err e) same are below value whole = tt
types_if nodes roots all slice (Ok ns) same are below value whole = types_are nodes roots all ns.items (are ∙ ap (types_at nodes) same) below value whole

-- ---- terms that test no type

-- what all parts don't test their term doesn't, but by itself
pub quiet_parts : (nodes : List Plain) (ks : List ℕ) → ((k : ℕ) → is_among ks k ≡ true → tests_in (tree_at nodes k) ≡ []) → tests_in_parts (parts_at (tree_at nodes) ks) ≡ []
quiet_parts nodes [] quiet = refl
quiet_parts nodes (k ∷ ks) quiet = ap (λ (l : List ℕ). l ++ tests_in_parts (parts_at (tree_at nodes) ks)) (quiet k (among_first k ks)) ∙ quiet_parts nodes ks (λ j h. quiet j (among_more k ks j h))

-- the term is no test, and none of its parts is marked
pub quiet_term : (nodes : List Plain) (marks : List Bool) (t : ℕ) (n : Plain) (ks : List ℕ) → tree_at nodes t ≡ grown (tree_at nodes) n → type_of n.symbol ≡ None → ks ≡ n.parts → ((k : ℕ) → is_among ks k ≡ true → get_or marks k true ≡ false) → AreQuiet nodes marks → tests_in (tree_at nodes t) ≡ []
quiet_term nodes marks t n ks tree own parts none quiet =
    ap tests_in tree
    ∙ own_first n.symbol (parts_at (tree_at nodes) n.parts)
    ∙ ap (λ (o : Option ℕ). listed_if o ++ tests_in_parts (parts_at (tree_at nodes) n.parts)) own
    ∙ quiet_parts nodes n.parts (λ k h. quiet k (none k (subst (λ (l : List ℕ). is_among l k ≡ true) (sym parts) h)))

pub none_of : (o : Option ℕ) → is_some o ≡ false → o ≡ None
none_of None h = refl
none_of (Some n) h = absurd (let e : true ≡ false = h in cc)

-- one more that isn't marked
pub quiet_turn : (marks : List Bool) (ks : List ℕ) (i : ℕ) → i < length ks → get_or marks (get_or ks i 0) true ≡ false → ((k : ℕ) → is_among (take i ks) k ≡ true → get_or marks k true ≡ false) → (k : ℕ) → is_among (take (i + 1) ks) k ≡ true → get_or marks k true ≡ false
quiet_turn marks ks i lt one so k h = elim (among_either (take i ks) (get_or ks i 0 ∷ []) k (subst (λ (l : List ℕ). is_among l k ≡ true) (take_more ks i 0 lt) h)) as (λ _. get_or marks k true ≡ false) [
  | inl e ↦ so k e
  | inr e ↦ elim (among_cases (get_or ks i 0) [] k e) as (λ _. get_or marks k true ≡ false) [ inl is ↦ subst (λ (j : ℕ). get_or marks j true ≡ false) is one | inr none ↦ absurd (let f : false ≡ true = none in cc) ]
]

-- no term is marked
pub quiet_none : (nodes : List Plain) (marks : List Bool) → marks ≡ [] → AreQuiet nodes marks
quiet_none nodes marks is k h = absurd (let e : true ≡ false = sym (ap (λ (l : List Bool). get_or l k true) is) ∙ h in cc)

-- one more mark
pub quiet_more : (nodes : List Plain) (old new : List Bool) (mark : Bool) (t : ℕ) → length old ≡ t → new ≡ old ++ mark ∷ [] → (mark ≡ false → tests_in (tree_at nodes t) ≡ []) → AreQuiet nodes old → AreQuiet nodes new
quiet_more nodes old new mark t is pushed one quiet k h = elim (split old k (subst (λ (l : List Bool). get_or l k true ≡ false) pushed h)) as (λ _. tests_in (tree_at nodes k) ≡ []) [
  | inl e ↦ quiet k e
  | inr e ↦ subst (λ (j : ℕ). tests_in (tree_at nodes j) ≡ []) (sym is ∙ sym e.0) (one e.1)
]
  where
    split : (xs : List Bool) (j : ℕ) → get_or (xs ++ mark ∷ []) j true ≡ false → (get_or xs j true ≡ false) ⊎ ((j ≡ length xs) × (mark ≡ false))
    split [] zero g = inr (refl, g)
    split [] (suc j) g = absurd (let e : true ≡ false = g in cc)
    split (x ∷ xs) zero g = inl g
    split (x ∷ xs) (suc j) g = elim (split xs j g) as (λ _. (get_or xs j true ≡ false) ⊎ ((suc j ≡ suc (length xs)) × (mark ≡ false))) [ inl e ↦ inl e | inr e ↦ inr (ap (λ (n : ℕ). suc n) e.0, e.1) ]

-- a term that isn't marked tests none
pub quiet_root : (nodes : List Plain) (marks : List Bool) (root : ℕ) (ns : List ℕ) → ns ≡ [] → get_or marks root true ≡ false → AreQuiet nodes marks → (n : ℕ) → is_among ns n ≡ is_among (tests_in_all (map (tree_at nodes) (root ∷ []))) n
quiet_root nodes marks root ns none mark quiet n =
    ap (λ (l : List ℕ). is_among l n) (none ∙ sym (ap (λ (l : List ℕ). l ++ []) (quiet root mark)))
