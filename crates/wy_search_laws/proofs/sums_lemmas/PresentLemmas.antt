-- The terms present stand once, so their places are numbers of theirs; terms of one class are variables of forms both or neither.
use Rattle.std.proofs.Common.{◌≡◌, ◌⊎◌, ◌∙◌, ◌+◌, ◌<◌, ◌&&◌, ◌||◌, ℕ, zero, suc, List, [], ◌∷◌, ◌++◌, map, length, Bool, true, false, cond, not, eqb, ℤ, pos, Option, Some, None, inl, inr, refl, sym, ap, subst, arith}
use Rattle.std.specs.Prelude.{slice_index, slice_index_or, is_none}
use Rattle.std.proofs.lemmas.Bool.{eqb-true, eq-eqb}
use Rattle.std.proofs.lemmas.List.{length-map}
use Rattle.wy_lemmas.proofs.Choices.{true_false as false_not_true, first_false as or_false, or_right as second_true}
use Rattle.wy_lemmas.proofs.Options.{some_number_is as some_is}
use Rattle.wy_search_bounds.proofs.wy_search_spec_proofs.SharedLemmas.{length_numbers}
use Rattle.wy_search_bounds.specs.wy_term.Term as term
use Rattle.wy_search_bounds.specs.wy_term.Term.{Symbol, Term, Of, Parts, no_parts, part, two, Number, equal}
use Rattle.wy_search_bounds.specs.wy_term.Same.{same_term}
use Rattle.wy_search_bounds.specs.wy_term.Rewriting.{as_number}
use Rattle.wy_search_bounds.specs.wy_term.Scope.{free_names}
use Rattle.wy_search_bounds.specs.wy_term.Sorts.{val_sort, sort_in}
use Rattle.wy_search_bounds.proofs.wy_term_proofs.SameLemmas.{terms_are, terms_self}
use Rattle.wy_search_bounds.specs.wy_lin.Linear.{Linear}
use Rattle.wy_search_bounds.specs.wy_lin.Seen.{seen, seen_part}
use Rattle.wy_search_bounds.proofs.wy_lin_proofs.SeenLemmas.{NamesOnce, names_once}
use Rattle.wy_search_bounds.specs.wy_check_spec.judge.Node.{Literal, Node, has_formula, has_literal}
use Rattle.wy_search_bounds.specs.wy_search_spec.Standing.{Standing, have_common, with_unbound, in_literals, in_formulas, standing, is_term_sort, only_terms, present}
use Rattle.wy_search_bounds.specs.wy_search_spec.Classes.{place_from, label_of, same_label, in_one_class, are_congruent, relabelled, joined, with_equal, with_literal, with_equations, with_congruent, with_all_congruent, rounds, numbers_from, classes}
use Rattle.wy_search_bounds.specs.wy_search_spec.Bounds.{number_or_end, numbered_part, numbered, first_with, first_of_class}
use Rattle.wy_search_bounds.specs.wy_search_spec.least.Least.{IsAmong}
use Rattle.wy_search_bounds.proofs.wy_search_spec_proofs.least_lemmas.PlaceLemmas.{place_below, place_same, placed}
use Rattle.wy_search_bounds.proofs.wy_search_spec_proofs.least_lemmas.SoundLemmas.{ArePair, ArePairs, Relates, related_classes}
use Rattle.wy_search_laws.proofs.sums_lemmas.VariableLemmas.{is_end, is_one, is_two, is_variable, none_number, val_is}

-- ---- lists in which no term stands twice

abbrev pub AreDistinct : List Term → Type 0
AreDistinct [] = Unit {0}
AreDistinct (t ∷ ts) = (has_formula ts t ≡ false) × AreDistinct ts

both_false : (b c : Bool) → cond b true c ≡ false → (b ≡ false) × (c ≡ false)
both_false true c e = absurd cc
both_false false c e = (refl, e)

turned : (s t : Term) → same_term s t ≡ false → same_term t s ≡ false
turned s t e = by (same_term t s) refl
  where
    by : (b : Bool) → same_term t s ≡ b → b ≡ false
    by true f = absurd (false_not_true (same_term s t) (ap (λ (x : Term). same_term s x) (terms_are t s f) ∙ terms_self s) e)
    by false f = refl

not_last : (us : List Term) (x u : Term) → has_formula us u ≡ false → same_term x u ≡ false → has_formula (us ++ x ∷ []) u ≡ false
not_last [] x u e f = ap (λ (b : Bool). cond b true false) f
not_last (v ∷ us) x u e f =
    let h = both_false (same_term v u) (has_formula us u) e in
    ap (λ (b : Bool). cond b true (has_formula (us ++ x ∷ []) u)) h.0 ∙ not_last us x u h.1 f

distinct_last : (us : List Term) (x : Term) → AreDistinct us → has_formula us x ≡ false → AreDistinct (us ++ x ∷ [])
distinct_last [] x h e = (refl, tt)
distinct_last (u ∷ us) x h e =
    let g = both_false (same_term u x) (has_formula us x) e in
    (not_last us x u h.0 (turned u x g.0), distinct_last us x h.1 g.1)

unbound_distinct : (done : List Term) (ss : List Standing) → AreDistinct done → AreDistinct (with_unbound done ss)
unbound_distinct done [] h = h
unbound_distinct done (s ∷ ss) h = unbound_distinct (cond (has_formula done s.what || have_common (free_names s.what) s.around) done (done ++ s.what ∷ [])) ss (by (has_formula done s.what || have_common (free_names s.what) s.around) refl)
  where
    by : (b : Bool) → (has_formula done s.what || have_common (free_names s.what) s.around) ≡ b → AreDistinct (cond b done (done ++ s.what ∷ []))
    by true e = h
    by false e = distinct_last done s.what h (or_false (has_formula done s.what) (have_common (free_names s.what) s.around) e)

fewer : (us : List Term) (t : Term) → has_formula us t ≡ false → has_formula (only_terms us) t ≡ false
fewer [] t e = refl
fewer (u ∷ us) t e =
    let h = both_false (same_term u t) (has_formula us t) e in
    by (is_term_sort (sort_in u)) h.0 (fewer us t h.1)
  where
    by : (b : Bool) → same_term u t ≡ false → has_formula (only_terms us) t ≡ false → has_formula (cond b (u ∷ only_terms us) (only_terms us)) t ≡ false
    by true f rest = ap (λ (c : Bool). cond c true (has_formula (only_terms us) t)) f ∙ rest
    by false f rest = rest

terms_distinct : (us : List Term) → AreDistinct us → AreDistinct (only_terms us)
terms_distinct [] h = tt
terms_distinct (u ∷ us) h = by (is_term_sort (sort_in u)) (terms_distinct us h.1)
  where
    by : (b : Bool) → AreDistinct (only_terms us) → AreDistinct (cond b (u ∷ only_terms us) (only_terms us))
    by true rest = (fewer us u h.0, rest)
    by false rest = rest

pub present_distinct : (node : Node) → AreDistinct (present node)
present_distinct node = terms_distinct (standing node) (unbound_distinct [] (in_literals node.literals ++ in_formulas node.pending) tt)

-- ---- terms at places

-- the term at a place
abbrev pub at : List Term → ℕ → Term
at ts k = slice_index_or ts k (Number (pos 0))

among_at : (ts : List Term) (k : ℕ) → k < length ts → has_formula ts (at ts k) ≡ true
among_at [] k lt = absurd (omega (arith, lt))
among_at (t ∷ ts) zero lt = ap (λ (b : Bool). cond b true (has_formula ts t)) (terms_self t)
among_at (t ∷ ts) (suc k) lt = by (same_term t (at ts k)) (among_at ts k (omega (arith, lt)))
  where
    by : (b : Bool) → has_formula ts (at ts k) ≡ true → cond b true (has_formula ts (at ts k)) ≡ true
    by true rest = refl
    by false rest = rest

pub one_place : (ts : List Term) → AreDistinct ts → (i j : ℕ) → i < length ts → j < length ts → at ts i ≡ at ts j → i ≡ j
one_place [] h i j li lj e = absurd (omega (arith, li))
one_place (t ∷ ts) h zero zero li lj e = refl
one_place (t ∷ ts) h zero (suc j) li lj e = absurd (false_not_true (has_formula ts t) (subst (λ (x : Term). has_formula ts x ≡ true) (sym e) (among_at ts j (omega (arith, lj)))) h.0)
one_place (t ∷ ts) h (suc i) zero li lj e = absurd (false_not_true (has_formula ts t) (subst (λ (x : Term). has_formula ts x ≡ true) e (among_at ts i (omega (arith, li)))) h.0)
one_place (t ∷ ts) h (suc i) (suc j) li lj e = ap suc (one_place ts h.1 i j (omega (arith, li)) (omega (arith, lj)) e)

pub places_once : (ts : List Term) → AreDistinct ts → NamesOnce (at ts) (length ts)
places_once ts h = names_once (at ts) (length ts) (one_place ts h)

record IsBehind (ts : List Term) (t : Term) (k i : ℕ) : Type 0 where
  index : ℕ
  is : i ≡ k + index
  one : at ts index ≡ t

is_behind : (ts : List Term) (t : Term) (k i : ℕ) → place_from ts t k ≡ Some i → IsBehind ts t k i
is_behind [] t k i e = absurd cc
is_behind (u ∷ us) t k i e = by (same_term u t) refl e (λ f. is_behind us t (suc k) i f)
  where
    by : (b : Bool) → same_term u t ≡ b → cond b (Some k) (place_from us t (suc k)) ≡ Some i → (place_from us t (suc k) ≡ Some i → IsBehind us t (suc k) i) → IsBehind (u ∷ us) t k i
    by true f g later = let here : k ≡ i = some_is k i g in record { index = 0; is = omega (arith, here); one = terms_are u t f }
    by false f g later = let rest = later g in record { index = suc rest.index; is = omega (arith, rest.is); one = rest.one }

-- the term with a place stands there
pub at_place : (ts : List Term) (t : Term) (i : ℕ) → place_from ts t 0 ≡ Some i → at ts i ≡ t
at_place ts t i e =
    let h = is_behind ts t 0 i e in
    let same : i ≡ h.index = omega (arith, h.is) in
    ap (at ts) same ∙ h.one

-- what stands at a place has that place
pub place_at : (ts : List Term) → AreDistinct ts → (i : ℕ) → i < length ts → place_from ts (at ts i) 0 ≡ Some i
place_at ts h i lt =
    let p = placed ts (at ts i) (among_at ts i lt) in
    p.is ∙ ap (λ (k : ℕ). Some k) (one_place ts h p.at i (place_below ts (at ts i) p.at p.is) lt (at_place ts (at ts i) p.at p.is))

pub among_place : (ts : List Term) (i : ℕ) → i < length ts → IsAmong ts (at ts i)
among_place ts i lt = among_at ts i lt

-- ---- classes

length_equal : (ts : List Term) (labels : List ℕ) (s t : Term) → length (with_equal ts labels s t) ≡ length labels
length_equal ts labels s t = by (label_of labels (place_from ts s 0)) (label_of labels (place_from ts t 0))
  where
    by : (o p : Option ℕ) → length (joined labels o p) ≡ length labels
    by None p = refl
    by (Some a) None = refl
    by (Some a) (Some b) = length-map labels (λ (l : ℕ). cond (eqb l a) b l)

length_literal : (ts : List Term) (labels : List ℕ) (holds : Bool) (a : Term) → length (with_literal ts labels holds a) ≡ length labels
length_literal ts labels true (Of equal (part v (part w no_parts))) = length_equal ts labels v w
length_literal ts labels holds a = refl

length_equations : (ts : List Term) (labels : List ℕ) (ls : List Literal) → length (with_equations ts labels ls) ≡ length labels
length_equations ts labels [] = refl
length_equations ts labels (l ∷ ls) = length_equations ts (with_literal ts labels l.holds l.atom) ls ∙ length_literal ts labels l.holds l.atom

length_congruent : (ts : List Term) (labels : List ℕ) (s : Term) (us : List Term) → length (with_congruent ts labels s us) ≡ length labels
length_congruent ts labels s [] = refl
length_congruent ts labels s (t ∷ us) = length_congruent ts (cond (are_congruent ts labels s t) (with_equal ts labels s t) labels) s us ∙ by (are_congruent ts labels s t)
  where
    by : (b : Bool) → length (cond b (with_equal ts labels s t) labels) ≡ length labels
    by true = length_equal ts labels s t
    by false = refl

length_all_congruent : (ts : List Term) (labels : List ℕ) (us : List Term) → length (with_all_congruent ts labels us) ≡ length labels
length_all_congruent ts labels [] = refl
length_all_congruent ts labels (s ∷ us) = length_all_congruent ts (with_congruent ts labels s ts) us ∙ length_congruent ts labels s ts

length_rounds : (n : ℕ) (ts : List Term) (labels : List ℕ) → length (rounds n ts labels) ≡ length labels
length_rounds zero ts labels = refl
length_rounds (suc n) ts labels = length_rounds n ts (with_all_congruent ts labels ts) ∙ length_all_congruent ts labels ts

-- there is a label for each term
pub length_classes : (ts : List Term) (ls : List Literal) → length (classes ts ls) ≡ length ts
length_classes ts ls = length_rounds (length ts) ts (with_equations ts (numbers_from 0 ts) ls) ∙ (length_equations ts (numbers_from 0 ts) ls ∙ length_numbers 0 ts)

record IsFirst (ls : List ℕ) (l k w : ℕ) : Type 0 where
  index : ℕ
  is : w ≡ k + index
  within : index < length ls
  label : slice_index ls index ≡ l

first_there : (ls : List ℕ) (l k i : ℕ) → i < length ls → slice_index ls i ≡ l → IsFirst ls l k (first_with ls l k)
first_there [] l k i lt e = absurd (omega (arith, lt))
first_there (m ∷ ms) l k i lt e = by (eqb m l) refl i lt e (λ j lt e. first_there ms l (suc k) j lt e)
  where
    by : (b : Bool) → eqb m l ≡ b → (j : ℕ) → j < length (m ∷ ms) → slice_index (m ∷ ms) j ≡ l → ((j : ℕ) → j < length ms → slice_index ms j ≡ l → IsFirst ms l (suc k) (first_with ms l (suc k))) → IsFirst (m ∷ ms) l k (cond b k (first_with ms l (suc k)))
    by true is j within here later = record { index = 0; is = omega arith; within = omega arith; label = eqb-true m l is }
    by false is zero within here later = absurd (false_not_true (eqb m l) (eq-eqb m l here) is)
    by false is (suc j) within here later =
        let rest = later j (omega (arith, within)) here in
        record { index = suc rest.index; is = omega (arith, rest.is); within = omega (arith, rest.within); label = rest.label }

-- the first of a class is of the class
pub record IsOfClass (ts : List Term) (labels : List ℕ) (v w : ℕ) : Type 0 where
  pub below : w < length ts
  pub one : in_one_class ts labels (at ts v) (at ts w) ≡ true

pub first_is : (ts : List Term) (labels : List ℕ) (v : ℕ) → AreDistinct ts → length labels ≡ length ts → v < length ts → IsOfClass ts labels v (first_of_class labels v)
first_is ts labels v distinct long lt =
    let h = first_there labels (slice_index labels v) 0 v (omega (arith, long, lt)) refl in
    let w = first_of_class labels v in
    let same : w ≡ h.index = omega (arith, h.is) in
    let below : w < length ts = omega (arith, same, h.within, long) in
    let label : slice_index labels w ≡ slice_index labels v = ap (slice_index labels) same ∙ h.label in
    record {
      below = below;
      one =
          second_true (same_term (at ts v) (at ts w)) (same_label (label_of labels (place_from ts (at ts v) 0)) (label_of labels (place_from ts (at ts w) 0)))
          (ap (λ (o : Option ℕ). same_label (label_of labels o) (label_of labels (place_from ts (at ts w) 0))) (place_at ts distinct v lt)
          ∙ (ap (λ (o : Option ℕ). same_label (Some (slice_index labels v)) (label_of labels o)) (place_at ts distinct w below)
          ∙ eq-eqb (slice_index labels v) (slice_index labels w) (sym label)));
    }

-- ---- what terms of a class have in common

-- both are one number or none, and both are variables of forms or neither
pub record AreSameKind (s t : Term) : Type 0 where
  pub number : as_number s ≡ as_number t
  pub variable : is_variable s ≡ is_variable t

module _ (ts : List Term) (ls : List Literal) (vals : (v w : Term) → has_literal ls (record { atom = two equal v w; holds = true }) ≡ true → (sort_in v ≡ val_sort) × (sort_in w ≡ val_sort)) where
  same_end : (ps qs : Parts) → ArePairs ts AreSameKind ps qs → is_end ps ≡ is_end qs
  same_end no_parts no_parts h = refl
  same_end no_parts (part t qs) h = absurd h
  same_end (part s ps) no_parts h = absurd h
  same_end (part s ps) (part t qs) h = refl

  same_one : (ps qs : Parts) → ArePairs ts AreSameKind ps qs → is_one ps ≡ is_one qs
  same_one no_parts no_parts h = refl
  same_one no_parts (part t qs) h = absurd h
  same_one (part s ps) no_parts h = absurd h
  same_one (part s ps) (part t qs) h = same_end ps qs h.1

  same_two : (ps qs : Parts) → ArePairs ts AreSameKind ps qs → is_two ps ≡ is_two qs
  same_two no_parts no_parts h = refl
  same_two no_parts (part t qs) h = absurd h
  same_two (part s ps) no_parts h = absurd h
  same_two (part s ps) (part t qs) h = same_one ps qs h.1

  same_number : (s t : Term) → (s ≡ t) ⊎ ArePair ts AreSameKind s t → as_number s ≡ as_number t
  same_number s t (inl e) = ap as_number e
  same_number s t (inr pair) = pair.related.number

  same_none : (ps qs : Parts) → ArePairs ts AreSameKind ps qs → none_number ps ≡ none_number qs
  same_none no_parts no_parts h = refl
  same_none no_parts (part t qs) h = absurd h
  same_none (part s ps) no_parts h = absurd h
  same_none (part s ps) (part t qs) h = ap (λ (o : Option ℤ). is_none o && none_number ps) (same_number s t h.0) ∙ ap (λ (b : Bool). is_none (as_number t) && b) (same_none ps qs h.1)

  congruent : (a : Symbol) (ps qs : Parts) → ArePairs ts AreSameKind ps qs → AreSameKind (Of a ps) (Of a qs)
  congruent (term.number z) ps qs h = record { number = refl; variable = refl }
  congruent term.add ps qs h = record { number = refl; variable = ap not (same_two ps qs h) }
  congruent term.sub ps qs h = record { number = refl; variable = ap not (same_two ps qs h) }
  congruent term.neg ps qs h = record { number = refl; variable = ap not (same_one ps qs h) }
  congruent term.mul ps qs h = record {
    number = refl;
    variable = ap (λ (b : Bool). not b || none_number ps) (same_two ps qs h) ∙ ap (λ (b : Bool). not (is_two qs) || b) (same_none ps qs h);
  }
  congruent a ps qs h = record { number = refl; variable = refl }

  related : Relates ts ls AreSameKind
  related = record {
    reflexive = λ t here. record { number = refl; variable = refl };
    symmetric = λ s t here there h. record { number = sym h.number; variable = sym h.variable };
    transitive = λ s t u here there beyond h g. record { number = h.number ∙ g.number; variable = h.variable ∙ g.variable };
    has = λ v w here there e.
        let sorts = vals v w e in
        let one = val_is v sorts.0 in
        let other = val_is w sorts.1 in
        record { number = one.free ∙ sym other.free; variable = one.variable ∙ sym other.variable };
    congruent = λ a ps qs here there h. congruent a ps qs h;
  }

  pub same_kinds : (s t : Term) → IsAmong ts s → in_one_class ts (classes ts ls) s t ≡ true → AreSameKind s t
  same_kinds s t here e = related_classes ls AreSameKind ts related s t here e

-- ---- numbered forms

-- each variable has a place
abbrev pub ArePlaced : List Term → List (ℤ × Term) → Type 0
ArePlaced ts [] = Unit {0}
ArePlaced ts (p ∷ ps) = ((i : ℕ) × (place_from ts p.1 0 ≡ Some i)) × ArePlaced ts ps

pub seen_numbered : (ts : List Term) (ps : List (ℤ × Term)) → ArePlaced ts ps → map (seen_part (at ts)) (map (numbered_part ts) ps) ≡ ps
seen_numbered ts [] h = refl
seen_numbered ts (p ∷ ps) h =
    let one : at ts (number_or_end (place_from ts p.1 0)) ≡ p.1 = ap (λ (o : Option ℕ). at ts (number_or_end o)) h.0.1 ∙ at_place ts p.1 h.0.0 h.0.1 in
    ap (λ (t : Term). (p.0, t) ∷ map (seen_part (at ts)) (map (numbered_part ts) ps)) one ∙ ap (λ (qs : List (ℤ × Term)). p ∷ qs) (seen_numbered ts ps h.1)
