-- What cuts and products state are formulas of sorted parts, where the literals are.
use Rattle.std.proofs.Common.{◌≡◌, ℕ, List, [], ◌∷◌, Bool, true, false, cond, eqb, ◌&&◌, ℤ, pos, ◌*ℤ◌, Option, Some, None, refl, subst}
use Rattle.std.specs.Prelude.{nat_lt}
use Rattle.std.specs.Ordering.{int_eq}
use Rattle.wy_check_spec.specs.wy_facts.Schema.{zero_term}
use Rattle.wy_lemmas.proofs.Options.{some_same as some_is}
use Rattle.wy_check_spec.specs.wy_term.Term as term
use Rattle.wy_check_spec.specs.wy_term.Term.{Term, Of, no_parts, part, two, Number}
use Rattle.wy_check_spec.specs.wy_term.Data.{quotient_down}
use Rattle.wy_check_spec.specs.wy_term.Same.{same_term}
use Rattle.wy_check_spec.specs.wy_term.Rewriting.{as_number, fitted}
use Rattle.wy_check_spec.specs.wy_term_subst.sorted.Sorted.{IsSorted}
use Rattle.wy_check_spec.specs.wy_lin.declared.arithmetic.Factor.{Factor}
use Rattle.wy_check_spec.specs.wy_lin.declared.arithmetic.Factor.TheVariants.{Times, Scale, Minus}
use Rattle.wy_check_spec.specs.wy_lin.Linear.{◌>>=◌, more, Linear, nothing, number_form, variable_form, coefficient, with_coefficient, plus_part, plus_parts}
use Rattle.wy_check_spec.specs.wy_lin.TermForm.{with, multiple, form_of_product, form_of, difference, excess, form_of_denial, form_of_literal}
use Rattle.wy_check_spec.proofs.wy_lin_proofs.OptionLemmas.{bind_some}
use Rattle.wy_check_spec.specs.wy_facts.Made.{made_two}
use Rattle.wy_check_spec.specs.judge.Node.{Literal}
use Rattle.wy_check_spec.specs.valid.Literals.{literal_at, signed, formula_of}
use Rattle.wy_check_spec.specs.valid.Sums.{form_at, plus_literal, summed_from, summed, divided, added_up, total_of, cut_bound, cut_of}
use Rattle.wy_check_spec.specs.valid.Sums as sums
use Rattle.wy_check_spec.specs.valid.Products.{Affine, affine, as_product, product_bound, product_of, product_stated}
use Rattle.wy_check_laws.proofs.sound_lemmas.Basics.{only_some}
use Rattle.wy_check_laws.proofs.sound_lemmas.MadeLemmas.{IsInt, IsFormula, number_sorted, at_most_sorted, add_sorted, mul_sorted}
use Rattle.wy_check_laws.proofs.sound_lemmas.NodeLemmas.{AreSortedLiterals, literal_is_sorted}

-- each variable is an Int term of sorted parts
abbrev AreIntParts : List (ℤ × Term) → Type 0
AreIntParts [] = Unit {0}
AreIntParts (p ∷ ps) = IsInt p.1 × AreIntParts ps

-- ---- sums

with_coefficient_ints : (ps : List (ℤ × Term)) (v : Term) (d : ℤ) → AreIntParts ps → IsInt v → AreIntParts (with_coefficient same_term ps v d)
with_coefficient_ints [] v d h g = (g, tt)
with_coefficient_ints (p ∷ ps) v d h g = by (same_term v p.1) (with_coefficient_ints ps v d h.1 g)
  where
    by : (b : Bool) → AreIntParts (with_coefficient same_term ps v d) → AreIntParts (cond b ((d, p.1) ∷ ps) (p ∷ with_coefficient same_term ps v d))
    by true rest = (h.0, h.1)
    by false rest = (h.0, rest)

plus_part_ints : (ps : List (ℤ × Term)) (m : Factor) (c : ℤ) (v : Term) (qs : List (ℤ × Term)) → AreIntParts ps → IsInt v → plus_part same_term ps m c v ≡ Some qs → AreIntParts qs
plus_part_ints ps m c v qs h g e =
    let a = bind_some (more (coefficient same_term ps v) m c) (λ d. Some (with_coefficient same_term ps v d)) qs e in
    subst AreIntParts (some_is (with_coefficient same_term ps v a.0) qs a.2) (with_coefficient_ints ps v a.0 h g)

plus_parts_ints : (ps : List (ℤ × Term)) (m : Factor) (gs qs : List (ℤ × Term)) → AreIntParts ps → AreIntParts gs → plus_parts same_term ps m gs ≡ Some qs → AreIntParts qs
plus_parts_ints ps m [] qs h g e = subst AreIntParts (some_is ps qs e) h
plus_parts_ints ps m (k ∷ ks) qs h g e =
    let a = bind_some (plus_part same_term ps m k.0 k.1) (λ rs. plus_parts same_term rs m ks) qs e in
    plus_parts_ints a.0 m ks qs (plus_part_ints ps m k.0 k.1 a.0 h g.0 a.1) g.1 a.2

abbrev IsIntForm : Linear Term → Type 0
IsIntForm f = AreIntParts f.parts

with_ints : (f : Linear Term) (m : Factor) (g h : Linear Term) → IsIntForm f → IsIntForm g → with f m g ≡ Some h → IsIntForm h
with_ints f m g h is_f is_g e =
    let a = bind_some (plus_parts same_term f.parts m g.parts) (λ ps. more f.constant m g.constant >>= λ c. Some (record { parts = ps; constant = c })) h e in
    let b = bind_some (more f.constant m g.constant) (λ c. Some (record { parts = a.0; constant = c })) h a.2 in
    let made : Linear Term = record { parts = a.0; constant = b.0 } in
    subst IsIntForm (some_is made h b.2) (plus_parts_ints f.parts m g.parts a.0 is_f is_g a.1)

multiple_ints : (m : Factor) (f h : Linear Term) → IsIntForm f → multiple m f ≡ Some h → IsIntForm h
multiple_ints m f h is_f e = with_ints nothing m f h tt is_f e

-- ---- terms

variable_ints : (t : Term) (f : Linear Term) → IsInt t → Some (variable_form t) ≡ Some f → IsIntForm f
variable_ints t f h e = subst IsIntForm (some_is (variable_form t) f e) (h, tt)

product_ints : (s t : Term) (a b : Option ℤ) (o p : Option (Linear Term)) (f : Linear Term) → IsInt (two term.mul s t) → ((g : Linear Term) → o ≡ Some g → IsIntForm g) → ((g : Linear Term) → p ≡ Some g → IsIntForm g) → form_of_product (two term.mul s t) a b o p ≡ Some f → IsIntForm f
product_ints s t (Some c) b o p f h first second e =
    let x = bind_some p (λ h. multiple (Scale c) h) f e in
    multiple_ints (Scale c) x.0 f (second x.0 x.1) x.2
product_ints s t None (Some c) o p f h first second e =
    let x = bind_some o (λ h. multiple (Scale c) h) f e in
    multiple_ints (Scale c) x.0 f (first x.0 x.1) x.2
product_ints s t None None o p f h first second e = variable_ints (two term.mul s t) f h e

form_ints : (t : Term) (f : Linear Term) → IsInt t → form_of t ≡ Some f → IsIntForm f
form_ints (Of (term.number z) ps) f h e = subst IsIntForm (some_is (number_form z) f e) tt
form_ints (Of term.add (part s (part t no_parts))) f h e =
    let a = bind_some (form_of s) (λ f. form_of t >>= λ g. with f (Times 1) g) f e in
    let b = bind_some (form_of t) (λ g. with a.0 (Times 1) g) f a.2 in
    with_ints a.0 (Times 1) b.0 f (form_ints s a.0 (h.0.1, h.0.0) a.1) (form_ints t b.0 (h.0.2.1, h.0.2.0) b.1) b.2
form_ints (Of term.sub (part s (part t no_parts))) f h e =
    let a = bind_some (form_of s) (λ f. form_of t >>= λ g. with f Minus g) f e in
    let b = bind_some (form_of t) (λ g. with a.0 Minus g) f a.2 in
    with_ints a.0 Minus b.0 f (form_ints s a.0 (h.0.1, h.0.0) a.1) (form_ints t b.0 (h.0.2.1, h.0.2.0) b.1) b.2
form_ints (Of term.neg (part s no_parts)) f h e =
    let a = bind_some (form_of s) (λ f. multiple Minus f) f e in
    multiple_ints Minus a.0 f (form_ints s a.0 (h.0.1, h.0.0) a.1) a.2
form_ints (Of term.mul (part s (part t no_parts))) f h e =
    product_ints s t (as_number s) (as_number t) (form_of s) (form_of t) f h (λ g is. form_ints s g (h.0.1, h.0.0) is) (λ g is. form_ints t g (h.0.2.1, h.0.2.0) is) e
form_ints t f h e = variable_ints t f h e

-- ---- literals

difference_ints : (f g h : Linear Term) → IsIntForm f → IsIntForm g → difference f g ≡ Some h → IsIntForm h
difference_ints f g h is_f is_g e =
    let a = bind_some (multiple (Scale (pos 0)) f) (λ z. with z (Times 1) g >>= λ h. with h Minus f) h e in
    let b = bind_some (with a.0 (Times 1) g) (λ h. with h Minus f) h a.2 in
    with_ints b.0 Minus f h (with_ints a.0 (Times 1) g b.0 (multiple_ints (Scale (pos 0)) f a.0 is_f a.1) is_g b.1) is_f b.2

excess_ints : (f g h : Linear Term) → IsIntForm f → IsIntForm g → excess f g ≡ Some h → IsIntForm h
excess_ints f g h is_f is_g e =
    let a = bind_some (with f Minus g) (λ h. with h Minus (number_form (pos 1))) h e in
    with_ints a.0 Minus (number_form (pos 1)) h (with_ints f Minus g a.0 is_f is_g a.1) tt a.2

atom_ints : (b : Bool) (a : Term) (f : Linear Term) → IsFormula a → form_of_literal (signed a b) ≡ Some f → IsIntForm f
atom_ints true (Of term.at_most (part s (part t no_parts))) h is e =
    let a = bind_some (form_of s) (λ f. form_of t >>= λ g. difference f g) h e in
    let b = bind_some (form_of t) (λ g. difference a.0 g) h a.2 in
    difference_ints a.0 b.0 h (form_ints s a.0 (is.0.1, is.0.0) a.1) (form_ints t b.0 (is.0.2.1, is.0.2.0) b.1) b.2
atom_ints false (Of term.at_most (part s (part t no_parts))) h is e =
    let a = bind_some (form_of s) (λ f. form_of t >>= λ g. excess f g) h e in
    let b = bind_some (form_of t) (λ g. excess a.0 g) h a.2 in
    excess_ints a.0 b.0 h (form_ints s a.0 (is.0.1, is.0.0) a.1) (form_ints t b.0 (is.0.2.1, is.0.2.0) b.1) b.2
atom_ints true (Of term.denied (part a no_parts)) f is e = denied_ints a f (is.0.1, is.0.0) e
  where
    denied_ints : (a : Term) (f : Linear Term) → IsFormula a → form_of_denial a ≡ Some f → IsIntForm f
    denied_ints (Of term.at_most (part s (part t no_parts))) h is e =
        let a = bind_some (form_of s) (λ f. form_of t >>= λ g. excess f g) h e in
        let b = bind_some (form_of t) (λ g. excess a.0 g) h a.2 in
        excess_ints a.0 b.0 h (form_ints s a.0 (is.0.1, is.0.0) a.1) (form_ints t b.0 (is.0.2.1, is.0.2.0) b.1) b.2
    denied_ints a f is e = absurd cc
atom_ints b a f is e = absurd cc

form_at_ints : (ls : List Literal) (i : ℕ) (f : Linear Term) → AreSortedLiterals ls → form_at ls i ≡ Some f → IsIntForm f
form_at_ints ls i f h e =
    let l = bind_some (literal_at ls i) (λ l. form_of_literal (formula_of l)) f e in
    atom_ints l.0.holds l.0.atom f (literal_is_sorted ls i l.0 h l.1) l.2

plus_literal_ints : (ls : List Literal) (f : Linear Term) (m i : ℕ) (g : Linear Term) → AreSortedLiterals ls → IsIntForm f → plus_literal ls f m i ≡ Some g → IsIntForm g
plus_literal_ints ls f m i g h is e = by (eqb m 0) e
  where
    by : (b : Bool) → cond b None (form_at ls i >>= λ k. with f (Times m) k) ≡ Some g → IsIntForm g
    by true e = absurd cc
    by false e =
        let a = bind_some (form_at ls i) (λ k. with f (Times m) k) g e in
        with_ints f (Times m) a.0 g is (form_at_ints ls i a.0 h a.1) a.2

summed_from_ints : (ls : List Literal) (f : Linear Term) (ps : List (ℕ × ℕ)) (g : Linear Term) → AreSortedLiterals ls → IsIntForm f → summed_from ls f ps ≡ Some g → IsIntForm g
summed_from_ints ls f [] g h is e = subst IsIntForm (some_is f g e) is
summed_from_ints ls f (p ∷ ps) g h is e =
    let a = bind_some (plus_literal ls f p.0 p.1) (λ k. summed_from ls k ps) g e in
    summed_from_ints ls a.0 ps g h (plus_literal_ints ls f p.0 p.1 a.0 h is a.1) a.2

-- ---- cuts

abbrev AreInts : List Term → Type 0
AreInts [] = Unit {0}
AreInts (t ∷ ts) = IsInt t × AreInts ts

divided_ints : (d : ℕ) (ps : List (ℤ × Term)) → AreIntParts ps → AreInts (divided d ps)
divided_ints d [] h = tt
divided_ints d (p ∷ ps) h = by (int_eq p.0 (pos 0)) (divided_ints d ps h.1)
  where
    by : (b : Bool) → AreInts (divided d ps) → AreInts (cond b (divided d ps) (made_two term.mul (Number (quotient_down p.0 d)) p.1 ∷ divided d ps))
    by true rest = rest
    by false rest = (mul_sorted (Number (quotient_down p.0 d)) p.1 (number_sorted (quotient_down p.0 d)) h.0, rest)

added_up_int : (s : Term) (ts : List Term) → IsInt s → AreInts ts → IsInt (added_up s ts)
added_up_int s [] h g = h
added_up_int s (t ∷ ts) h g = added_up_int (made_two term.add s t) ts (add_sorted s t h g.0) g.1

total_int : (ts : List Term) (z : ℤ) → AreInts ts → IsInt (total_of ts z)
total_int [] z h = number_sorted z
total_int (t ∷ ts) z h = add_sorted (added_up t ts) (Number z) (added_up_int t ts h.0 h.1) (number_sorted z)

zero_int : IsInt zero_term
zero_int = number_sorted (pos 0)

-- what a cut of true literals' forms states
pub cut_sorted : (ls : List Literal) (ps : List (ℕ × ℕ)) (d : ℕ) (f : Linear Term) (g : Term) → AreSortedLiterals ls → summed ls ps ≡ Some f → cut_of d f ≡ Some g → IsFormula g
cut_sorted ls ps d f g h is e =
    let a = only_some (nat_lt 1 d && sums.divides_all d f.parts) (Some (cut_bound d f)) g e in
    let ints = summed_from_ints ls nothing ps f h tt is in
    subst IsFormula (some_is (cut_bound d f) g a.1) (at_most_sorted zero_term (total_of (divided d f.parts) (quotient_down f.constant d)) zero_int (total_int (divided d f.parts) (quotient_down f.constant d) (divided_ints d f.parts ints)))

-- ---- products

bound_sorted : (p s t : Term) (k l m n : ℤ) → IsInt p → IsInt s → IsInt t → IsFormula (product_bound p s t k l m n)
bound_sorted p s t k l m n is_p is_s is_t =
    let a = mul_sorted (Number k) p (number_sorted k) is_p in
    let b = mul_sorted (Number l) s (number_sorted l) is_s in
    let c = mul_sorted (Number m) t (number_sorted m) is_t in
    let ab = add_sorted (made_two term.mul (Number k) p) (made_two term.mul (Number l) s) a b in
    let abc = add_sorted (made_two term.add (made_two term.mul (Number k) p) (made_two term.mul (Number l) s)) (made_two term.mul (Number m) t) ab c in
    at_most_sorted zero_term (made_two term.add (made_two term.add (made_two term.add (made_two term.mul (Number k) p) (made_two term.mul (Number l) s)) (made_two term.mul (Number m) t)) (Number n)) zero_int
    (add_sorted (made_two term.add (made_two term.add (made_two term.mul (Number k) p) (made_two term.mul (Number l) s)) (made_two term.mul (Number m) t)) (Number n) abc (number_sorted n))

product_of_sorted : (p s t : Term) (x y : Affine) (g : Term) → IsInt p → IsInt s → IsInt t → product_of p s t x y ≡ Some g → IsFormula g
product_of_sorted p s t x y g is_p is_s is_t e =
    let a = bind_some (fitted (x.factor *ℤ y.factor)) (λ k. fitted (x.factor *ℤ y.more) >>= λ l. fitted (x.more *ℤ y.factor) >>= λ m. fitted (x.more *ℤ y.more) >>= λ n. Some (product_bound p s t k l m n)) g e in
    let b = bind_some (fitted (x.factor *ℤ y.more)) (λ l. fitted (x.more *ℤ y.factor) >>= λ m. fitted (x.more *ℤ y.more) >>= λ n. Some (product_bound p s t a.0 l m n)) g a.2 in
    let c = bind_some (fitted (x.more *ℤ y.factor)) (λ m. fitted (x.more *ℤ y.more) >>= λ n. Some (product_bound p s t a.0 b.0 m n)) g b.2 in
    let d = bind_some (fitted (x.more *ℤ y.more)) (λ n. Some (product_bound p s t a.0 b.0 c.0 n)) g c.2 in
    subst IsFormula (some_is (product_bound p s t a.0 b.0 c.0 d.0) g d.2) (bound_sorted p s t a.0 b.0 c.0 d.0 is_p is_s is_t)

product_parts : (p : Term) (u : Term × Term) → IsSorted p → as_product p ≡ Some u → IsInt p × IsInt u.0 × IsInt u.1
product_parts (Of term.mul (part s (part t no_parts))) u h e =
    let same : (s, t) ≡ u = cc in
    subst (λ (q : Term × Term). IsInt (Of term.mul (part s (part t no_parts))) × IsInt q.0 × IsInt q.1) same ((h, refl), (h.1, h.0), (h.2.1, h.2.0))
product_parts p u h e = absurd cc

pub product_sorted : (ls : List Literal) (i j : ℕ) (p g : Term) → IsSorted p → product_stated ls i j p ≡ Some g → IsFormula g
product_sorted ls i j p g h e =
    let u = bind_some (as_product p) (λ u. form_of u.0 >>= λ f. form_of u.1 >>= λ g. form_at ls i >>= λ h. form_at ls j >>= λ k. affine f h >>= λ x. affine g k >>= λ y. product_of p u.0 u.1 x y) g e in
    let f = bind_some (form_of u.0.0) (λ f. form_of u.0.1 >>= λ g. form_at ls i >>= λ h. form_at ls j >>= λ k. affine f h >>= λ x. affine g k >>= λ y. product_of p u.0.0 u.0.1 x y) g u.2 in
    let f2 = bind_some (form_of u.0.1) (λ g. form_at ls i >>= λ h. form_at ls j >>= λ k. affine f.0 h >>= λ x. affine g k >>= λ y. product_of p u.0.0 u.0.1 x y) g f.2 in
    let l = bind_some (form_at ls i) (λ h. form_at ls j >>= λ k. affine f.0 h >>= λ x. affine f2.0 k >>= λ y. product_of p u.0.0 u.0.1 x y) g f2.2 in
    let k = bind_some (form_at ls j) (λ k. affine f.0 l.0 >>= λ x. affine f2.0 k >>= λ y. product_of p u.0.0 u.0.1 x y) g l.2 in
    let x = bind_some (affine f.0 l.0) (λ x. affine f2.0 k.0 >>= λ y. product_of p u.0.0 u.0.1 x y) g k.2 in
    let y = bind_some (affine f2.0 k.0) (λ y. product_of p u.0.0 u.0.1 x.0 y) g x.2 in
    let q = product_parts p u.0 h u.1 in
    product_of_sorted p u.0.0 u.0.1 x.0 y.0 g q.0 q.1 q.2 y.2
