-- The variables of a node's forms are terms present in the node.
use Rattle.std.proofs.Common.{◌≡◌, ◌∙◌, ◌||◌, ℕ, zero, suc, List, [], ◌∷◌, ◌++◌, Bool, true, false, cond, ℤ, pos, Option, Some, None, refl, sym, ap, subst}
use Rattle.wy_lemmas.proofs.Options.{some_same as some_is}
use Rattle.wy_search_bounds.specs.wy_term.Term as term
use Rattle.wy_search_bounds.specs.wy_term.Term.{Term, Of, no_parts, part, two}
use Rattle.wy_search_bounds.specs.wy_term.Same.{same_term}
use Rattle.wy_search_bounds.specs.wy_term.Scope.{free_names}
use Rattle.wy_search_bounds.specs.wy_term.Sorts.{int_sort, sort_in}
use Rattle.wy_search_bounds.specs.wy_term.Rewriting.{as_number}
use Rattle.wy_search_bounds.proofs.wy_term_proofs.SameLemmas.{terms_are, terms_self}
use Rattle.wy_search_bounds.specs.wy_lin.declared.arithmetic.Factor.{Factor}
use Rattle.wy_search_bounds.specs.wy_lin.declared.arithmetic.Factor.TheVariants.{Times, Scale, Minus}
use Rattle.wy_search_bounds.specs.wy_lin.Linear.{◌>>=◌, more, Linear, nothing, number_form, variable_form, coefficient, with_coefficient, plus_part, plus_parts}
use Rattle.wy_search_bounds.specs.wy_lin.TermForm.{with, multiple, form_of_product, form_of, difference, excess, form_of_denial, form_of_literal}
use Rattle.wy_search_bounds.proofs.wy_lin_proofs.OptionLemmas.{bind_some}
use Rattle.wy_search_bounds.specs.wy_check_spec.judge.Node.{Literal, Node, has_formula}
use Rattle.wy_search_bounds.specs.wy_check_spec.valid.Literals.{signed, formula_of}
use Rattle.wy_search_bounds.specs.wy_search_spec.Standing.{Standing, all_parts, standing_in, have_common, with_unbound, in_literals, in_formulas, standing, is_term_sort, only_terms, present}
use Rattle.wy_search_bounds.specs.wy_search_spec.Classes.{place_from}
use Rattle.wy_search_bounds.proofs.wy_check_laws_proofs.sound_lemmas.MadeLemmas.{IsInt, IsFormula}

-- ---- what stands in a node

-- what stands outside of quantifiers is one of these
abbrev pub AreAmong : List Term → List Standing → Type 0
AreAmong us [] = Unit {0}
AreAmong us (s ∷ ss) = (s.around ≡ [] → has_formula us s.what ≡ true) × AreAmong us ss

first_among : (us : List Term) (xs ys : List Standing) → AreAmong us (xs ++ ys) → AreAmong us xs
first_among us [] ys h = tt
first_among us (x ∷ xs) ys h = (h.0, first_among us xs ys h.1)

rest_among : (us : List Term) (xs ys : List Standing) → AreAmong us (xs ++ ys) → AreAmong us ys
rest_among us [] ys h = h
rest_among us (x ∷ xs) ys h = rest_among us xs ys h.1

has_last : (us : List Term) (t : Term) → has_formula (us ++ t ∷ []) t ≡ true
has_last [] t = ap (λ (b : Bool). cond b true false) (terms_self t)
has_last (u ∷ us) t = by (same_term u t) (has_last us t)
  where
    by : (b : Bool) → has_formula (us ++ t ∷ []) t ≡ true → cond b true (has_formula (us ++ t ∷ []) t) ≡ true
    by true rest = refl
    by false rest = rest

has_more : (us : List Term) (x t : Term) → has_formula us t ≡ true → has_formula (us ++ x ∷ []) t ≡ true
has_more [] x t e = absurd cc
has_more (u ∷ us) x t e = by (same_term u t) e (λ f. has_more us x t f)
  where
    by : (b : Bool) → cond b true (has_formula us t) ≡ true → (has_formula us t ≡ true → has_formula (us ++ x ∷ []) t ≡ true) → cond b true (has_formula (us ++ x ∷ []) t) ≡ true
    by true f later = refl
    by false f later = later f

-- what is there stays there
stays_there : (done : List Term) (ss : List Standing) (t : Term) → has_formula done t ≡ true → has_formula (with_unbound done ss) t ≡ true
stays_there done [] t e = e
stays_there done (s ∷ ss) t e = stays_there (cond (has_formula done s.what || have_common (free_names s.what) s.around) done (done ++ s.what ∷ [])) ss t (by (has_formula done s.what || have_common (free_names s.what) s.around))
  where
    by : (b : Bool) → has_formula (cond b done (done ++ s.what ∷ [])) t ≡ true
    by true = e
    by false = has_more done s.what t e

none_common : (xs : List Term) → have_common xs [] ≡ false
none_common [] = refl
none_common (x ∷ xs) = none_common xs

or_first : (a b : Bool) → b ≡ false → (a || b) ≡ true → a ≡ true
or_first true b e f = refl
or_first false b e f = let up : true ≡ false = sym f ∙ e in absurd cc

all_among : (done : List Term) (ss : List Standing) → AreAmong (with_unbound done ss) ss
all_among done [] = tt
all_among done (s ∷ ss) =
    let test = has_formula done s.what || have_common (free_names s.what) s.around in
    (by (has_formula done s.what || have_common (free_names s.what) s.around) refl, all_among (cond test done (done ++ s.what ∷ [])) ss)
  where
    by : (b : Bool) → (has_formula done s.what || have_common (free_names s.what) s.around) ≡ b → s.around ≡ [] → has_formula (with_unbound (cond b done (done ++ s.what ∷ [])) ss) s.what ≡ true
    by true e = λ free. stays_there done ss s.what (or_first (has_formula done s.what) (have_common (free_names s.what) s.around) (ap (have_common (free_names s.what)) free ∙ none_common (free_names s.what)) e)
    by false e = λ free. stays_there (done ++ s.what ∷ []) ss s.what (has_last done s.what)

pub literals_among : (node : Node) → AreAmong (standing node) (in_literals node.literals)
literals_among node = first_among (standing node) (in_literals node.literals) (in_formulas node.pending) (all_among [] (in_literals node.literals ++ in_formulas node.pending))

-- ---- forms

-- an Int term that is one of these
abbrev pub IsOne : List Term → Term → Type 0
IsOne us t = IsInt t × (has_formula us t ≡ true)

-- each variable is such a term
abbrev pub AreOnes : List Term → List (ℤ × Term) → Type 0
AreOnes us [] = Unit {0}
AreOnes us (p ∷ ps) = IsOne us p.1 × AreOnes us ps

module _ (us : List Term) where
  with_coefficient_ones : (ps : List (ℤ × Term)) (v : Term) (d : ℤ) → AreOnes us ps → IsOne us v → AreOnes us (with_coefficient same_term ps v d)
  with_coefficient_ones [] v d h g = (g, tt)
  with_coefficient_ones (p ∷ ps) v d h g = by (same_term v p.1) (with_coefficient_ones ps v d h.1 g)
    where
      by : (b : Bool) → AreOnes us (with_coefficient same_term ps v d) → AreOnes us (cond b ((d, p.1) ∷ ps) (p ∷ with_coefficient same_term ps v d))
      by true rest = (h.0, h.1)
      by false rest = (h.0, rest)

  plus_part_ones : (ps : List (ℤ × Term)) (m : Factor) (c : ℤ) (v : Term) (qs : List (ℤ × Term)) → AreOnes us ps → IsOne us v → plus_part same_term ps m c v ≡ Some qs → AreOnes us qs
  plus_part_ones ps m c v qs h g e =
      let a = bind_some (more (coefficient same_term ps v) m c) (λ d. Some (with_coefficient same_term ps v d)) qs e in
      subst (AreOnes us) (some_is (with_coefficient same_term ps v a.0) qs a.2) (with_coefficient_ones ps v a.0 h g)

  plus_parts_ones : (ps : List (ℤ × Term)) (m : Factor) (gs qs : List (ℤ × Term)) → AreOnes us ps → AreOnes us gs → plus_parts same_term ps m gs ≡ Some qs → AreOnes us qs
  plus_parts_ones ps m [] qs h g e = subst (AreOnes us) (some_is ps qs e) h
  plus_parts_ones ps m (k ∷ ks) qs h g e =
      let a = bind_some (plus_part same_term ps m k.0 k.1) (λ rs. plus_parts same_term rs m ks) qs e in
      plus_parts_ones a.0 m ks qs (plus_part_ones ps m k.0 k.1 a.0 h g.0 a.1) g.1 a.2

  abbrev FormOnes : Linear Term → Type 0
  FormOnes f = AreOnes us f.parts

  with_ones : (f : Linear Term) (m : Factor) (g h : Linear Term) → FormOnes f → FormOnes g → with f m g ≡ Some h → FormOnes h
  with_ones f m g h is_f is_g e =
      let a = bind_some (plus_parts same_term f.parts m g.parts) (λ ps. more f.constant m g.constant >>= λ c. Some (record { parts = ps; constant = c })) h e in
      let b = bind_some (more f.constant m g.constant) (λ c. Some (record { parts = a.0; constant = c })) h a.2 in
      let made : Linear Term = record { parts = a.0; constant = b.0 } in
      subst FormOnes (some_is made h b.2) (plus_parts_ones f.parts m g.parts a.0 is_f is_g a.1)

  multiple_ones : (m : Factor) (f h : Linear Term) → FormOnes f → multiple m f ≡ Some h → FormOnes h
  multiple_ones m f h is_f e = with_ones nothing m f h tt is_f e

  variable_ones : (t : Term) (f : Linear Term) → IsOne us t → Some (variable_form t) ≡ Some f → FormOnes f
  variable_ones t f h e = subst FormOnes (some_is (variable_form t) f e) (h, tt)

  product_ones : (s t : Term) (a b : Option ℤ) (o p : Option (Linear Term)) (f : Linear Term) → IsOne us (two term.mul s t) → ((g : Linear Term) → o ≡ Some g → FormOnes g) → ((g : Linear Term) → p ≡ Some g → FormOnes g) → form_of_product (two term.mul s t) a b o p ≡ Some f → FormOnes f
  product_ones s t (Some c) b o p f h first second e =
      let x = bind_some p (λ h. multiple (Scale c) h) f e in
      multiple_ones (Scale c) x.0 f (second x.0 x.1) x.2
  product_ones s t None (Some c) o p f h first second e =
      let x = bind_some o (λ h. multiple (Scale c) h) f e in
      multiple_ones (Scale c) x.0 f (first x.0 x.1) x.2
  product_ones s t None None o p f h first second e = variable_ones (two term.mul s t) f h e

  -- what stands in two parts
  two_among : (s t : Term) → AreAmong us (standing_in s ++ (standing_in t ++ [])) → AreAmong us (standing_in s) × AreAmong us (standing_in t)
  two_among s t h = (first_among us (standing_in s) (standing_in t ++ []) h, first_among us (standing_in t) [] (rest_among us (standing_in s) (standing_in t ++ []) h))

  head_among : (t : Term) → AreAmong us (standing_in t) → has_formula us t ≡ true
  head_among (Of symbol ps) h = h.0 refl

  form_ones : (t : Term) (f : Linear Term) → IsInt t → AreAmong us (standing_in t) → form_of t ≡ Some f → FormOnes f
  form_ones (Of (term.number z) ps) f h k e = subst FormOnes (some_is (number_form z) f e) tt
  form_ones (Of term.add (part s (part t no_parts))) f h k e =
      let a = bind_some (form_of s) (λ f. form_of t >>= λ g. with f (Times 1) g) f e in
      let b = bind_some (form_of t) (λ g. with a.0 (Times 1) g) f a.2 in
      let apart = two_among s t k.1 in
      with_ones a.0 (Times 1) b.0 f (form_ones s a.0 (h.0.1, h.0.0) apart.0 a.1) (form_ones t b.0 (h.0.2.1, h.0.2.0) apart.1 b.1) b.2
  form_ones (Of term.sub (part s (part t no_parts))) f h k e =
      let a = bind_some (form_of s) (λ f. form_of t >>= λ g. with f Minus g) f e in
      let b = bind_some (form_of t) (λ g. with a.0 Minus g) f a.2 in
      let apart = two_among s t k.1 in
      with_ones a.0 Minus b.0 f (form_ones s a.0 (h.0.1, h.0.0) apart.0 a.1) (form_ones t b.0 (h.0.2.1, h.0.2.0) apart.1 b.1) b.2
  form_ones (Of term.neg (part s no_parts)) f h k e =
      let a = bind_some (form_of s) (λ f. multiple Minus f) f e in
      multiple_ones Minus a.0 f (form_ones s a.0 (h.0.1, h.0.0) (first_among us (standing_in s) [] k.1) a.1) a.2
  form_ones (Of term.mul (part s (part t no_parts))) f h k e =
      let apart = two_among s t k.1 in
      product_ones s t (as_number s) (as_number t) (form_of s) (form_of t) f (h, k.0 refl) (λ g is. form_ones s g (h.0.1, h.0.0) apart.0 is) (λ g is. form_ones t g (h.0.2.1, h.0.2.0) apart.1 is) e
  form_ones t f h k e = variable_ones t f (h, head_among t k) e

  difference_ones : (f g h : Linear Term) → FormOnes f → FormOnes g → difference f g ≡ Some h → FormOnes h
  difference_ones f g h is_f is_g e =
      let a = bind_some (multiple (Scale (pos 0)) f) (λ z. with z (Times 1) g >>= λ h. with h Minus f) h e in
      let b = bind_some (with a.0 (Times 1) g) (λ h. with h Minus f) h a.2 in
      with_ones b.0 Minus f h (with_ones a.0 (Times 1) g b.0 (multiple_ones (Scale (pos 0)) f a.0 is_f a.1) is_g b.1) is_f b.2

  excess_ones : (f g h : Linear Term) → FormOnes f → FormOnes g → excess f g ≡ Some h → FormOnes h
  excess_ones f g h is_f is_g e =
      let a = bind_some (with f Minus g) (λ h. with h Minus (number_form (pos 1))) h e in
      with_ones a.0 Minus (number_form (pos 1)) h (with_ones f Minus g a.0 is_f is_g a.1) tt a.2

  atom_ones : (b : Bool) (a : Term) (h : Linear Term) → IsFormula a → AreAmong us (standing_in a) → form_of_literal (signed a b) ≡ Some h → FormOnes h
  atom_ones true (Of term.at_most (part s (part t no_parts))) h is k e =
      let a = bind_some (form_of s) (λ f. form_of t >>= λ g. difference f g) h e in
      let b = bind_some (form_of t) (λ g. difference a.0 g) h a.2 in
      let apart = two_among s t k.1 in
      difference_ones a.0 b.0 h (form_ones s a.0 (is.0.1, is.0.0) apart.0 a.1) (form_ones t b.0 (is.0.2.1, is.0.2.0) apart.1 b.1) b.2
  atom_ones false (Of term.at_most (part s (part t no_parts))) h is k e =
      let a = bind_some (form_of s) (λ f. form_of t >>= λ g. excess f g) h e in
      let b = bind_some (form_of t) (λ g. excess a.0 g) h a.2 in
      let apart = two_among s t k.1 in
      excess_ones a.0 b.0 h (form_ones s a.0 (is.0.1, is.0.0) apart.0 a.1) (form_ones t b.0 (is.0.2.1, is.0.2.0) apart.1 b.1) b.2
  atom_ones true (Of term.denied (part a no_parts)) h is k e = denied_ones a h (is.0.1, is.0.0) (first_among us (standing_in a) [] k.1) e
    where
      denied_ones : (a : Term) (h : Linear Term) → IsFormula a → AreAmong us (standing_in a) → form_of_denial a ≡ Some h → FormOnes h
      denied_ones (Of term.at_most (part s (part t no_parts))) h is k e =
          let a = bind_some (form_of s) (λ f. form_of t >>= λ g. excess f g) h e in
          let b = bind_some (form_of t) (λ g. excess a.0 g) h a.2 in
          let apart = two_among s t k.1 in
          excess_ones a.0 b.0 h (form_ones s a.0 (is.0.1, is.0.0) apart.0 a.1) (form_ones t b.0 (is.0.2.1, is.0.2.0) apart.1 b.1) b.2
      denied_ones a h is k e = absurd cc
  atom_ones b a h is k e = absurd cc

  -- the variables of a literal's form
  pub literal_ones : (l : Literal) (h : Linear Term) → IsFormula l.atom → AreAmong us (standing_in l.atom) → form_of_literal (formula_of l) ≡ Some h → FormOnes h
  literal_ones l h is k e = atom_ones l.holds l.atom h is k e

-- ---- places

int_is_term : (t : Term) → IsInt t → is_term_sort (sort_in t) ≡ true
int_is_term t h = ap is_term_sort h.1

-- one of the terms has a place among those present
has_place : (ts : List Term) (t : Term) (k : ℕ) → has_formula ts t ≡ true → is_term_sort (sort_in t) ≡ true → (i : ℕ) × (place_from (only_terms ts) t k ≡ Some i)
has_place [] t k e f = absurd cc
has_place (u ∷ us) t k e f = by (same_term u t) refl e (λ j g. has_place us t j g f)
  where
    kept : (b : Bool) → is_term_sort (sort_in u) ≡ b → same_term u t ≡ false → ((j : ℕ) → (i : ℕ) × (place_from (only_terms us) t j ≡ Some i)) → (i : ℕ) × (place_from (cond b (u ∷ only_terms us) (only_terms us)) t k ≡ Some i)
    kept true is apart rest =
        let later = rest (suc k) in
        (later.0, ap (λ (b : Bool). cond b (Some k) (place_from (only_terms us) t (suc k))) apart ∙ later.1)
    kept false is apart rest = rest k

    here : (b : Bool) → is_term_sort (sort_in u) ≡ b → same_term u t ≡ true → (i : ℕ) × (place_from (cond b (u ∷ only_terms us) (only_terms us)) t k ≡ Some i)
    here true is same = (k, ap (λ (b : Bool). cond b (Some k) (place_from (only_terms us) t (suc k))) same)
    here false is same =
        let sort : is_term_sort (sort_in u) ≡ true = ap (λ (x : Term). is_term_sort (sort_in x)) (terms_are u t same) ∙ f in
        let up : true ≡ false = sym sort ∙ is in
        absurd cc

    by : (b : Bool) → same_term u t ≡ b → cond b true (has_formula us t) ≡ true → ((j : ℕ) → has_formula us t ≡ true → (i : ℕ) × (place_from (only_terms us) t j ≡ Some i)) → (i : ℕ) × (place_from (only_terms (u ∷ us)) t k ≡ Some i)
    by true same g rest = here (is_term_sort (sort_in u)) refl same
    by false apart g rest = kept (is_term_sort (sort_in u)) refl apart (λ j. rest j g)

pub has_a_place : (node : Node) (t : Term) → IsOne (standing node) t → (i : ℕ) × (place_from (present node) t 0 ≡ Some i)
has_a_place node t h = has_place (standing node) t 0 h.1 (int_is_term t h.0)

pub one_literal : (us : List Term) (l : Literal) (ls : List Literal) → AreAmong us (in_literals (l ∷ ls)) → AreAmong us (standing_in l.atom) × AreAmong us (in_literals ls)
one_literal us l ls h = (first_among us (standing_in l.atom) (in_literals ls) h, rest_among us (standing_in l.atom) (in_literals ls) h)
