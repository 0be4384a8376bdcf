-- The products of a node's bounds follow from it.
use Rattle.std.proofs.Common.{◌≡◌, ◌∙◌, ◌+◌, ◌-◌, ℕ, zero, suc, List, [], ◌∷◌, ◌++◌, length, Bool, true, false, cond, eqb, ◌||◌, ℤ, pos, Option, Some, None, refl, sym, ap, subst, arith, append_assoc}
use Rattle.std.specs.Prelude.{slice_get, int_lt, unsigned_abs}
use Rattle.std.specs.Bool.{beq}
use Rattle.std.proofs.Math.Dec.{eqb-suc-zero}
use Rattle.wy_lemmas.proofs.Options.{some_same as some_is}
use Rattle.wy_search_bounds.specs.wy_term.Term.{Term}
use Rattle.wy_search_bounds.specs.wy_term.Data.{quotient_down}
use Rattle.wy_search_bounds.specs.wy_term.Meaning.{Names, sense}
use Rattle.wy_search_bounds.specs.wy_term.Condition.{Entry, AreUnfolded}
use Rattle.wy_search_bounds.specs.wy_term_subst.sorted.Sorted.{IsSorted}
use Rattle.wy_search_bounds.specs.wy_lin.Linear.{◌>>=◌, Linear}
use Rattle.wy_search_bounds.specs.wy_lin.TermForm.{form_of, form_of_literal}
use Rattle.wy_search_bounds.proofs.wy_lin_proofs.OptionLemmas.{bind_some}
use Rattle.wy_search_bounds.specs.wy_check_spec.judge.Node.{Literal, Node, added}
use Rattle.wy_search_bounds.specs.wy_check_spec.judge.Told.{IsTrueNode}
use Rattle.wy_search_bounds.proofs.wy_check_spec_proofs.valid_lemmas.SharedLemmas.{stated_is}
use Rattle.wy_search_bounds.specs.wy_check_spec.valid.Literals.{formula_of, literal_at}
use Rattle.wy_search_bounds.specs.wy_check_spec.valid.Sums.{all_zero, form_at}
use Rattle.wy_search_bounds.specs.wy_check_spec.valid.Products.{Affine, affine, as_product, product_of, product_stated}
use Rattle.wy_search_bounds.specs.wy_search_spec.Standing.{standing}
use Rattle.wy_search_bounds.specs.wy_search_spec.Expansion.{with_some, tighter, with_bound, bound_by_literal, best_bound, bound_of, with_product, with_four, with_forms, with_products_of, with_products_by, with_products}
use Rattle.wy_search_bounds.specs.wy_check_laws.sound.Sortedness.{AreSortedTerms}
use Rattle.wy_search_bounds.proofs.wy_check_laws_proofs.sound_lemmas.NodeLemmas.{IsSortedNode}
use Rattle.wy_search_bounds.proofs.wy_check_laws_proofs.sound_lemmas.FormSortLemmas.{product_sorted}
use Rattle.wy_search_bounds.proofs.wy_check_laws_proofs.sound_lemmas.ProductLemmas.{product_holds}
use Rattle.wy_search_laws.proofs.closing_lemmas.BestLemmas.{IsBest, best_with, best_found}
use Rattle.wy_search_laws.proofs.sound_lemmas.FollowingLemmas.{Follows, follows_self, adds}
use Rattle.wy_search_laws.proofs.sound_lemmas.StandingLemmas.{node_sorted}

-- ---- literals by their numbers

-- the literal has a number
abbrev pub HasNumber : List Literal → Literal → Type 0
HasNumber all l = (i : ℕ) × (literal_at all i ≡ Some l)

abbrev pub HaveNumbers : List Literal → List Literal → Type 0
HaveNumbers all [] = Unit {0}
HaveNumbers all (l ∷ ls) = HasNumber all l × HaveNumbers all ls

there : (done : List Literal) (l : Literal) (ls : List Literal) → slice_get (done ++ l ∷ ls) (length done) ≡ Some l
there [] l ls = refl
there (k ∷ ks) l ls = there ks l ls

numbered : (ls : List Literal) (k : ℕ) (l : Literal) → slice_get ls k ≡ Some l → literal_at ls (suc k) ≡ Some l
numbered ls k l e =
    let back : suc k - 1 ≡ k = omega arith in
    ap (λ (b : Bool). cond b None (slice_get ls (suc k - 1))) (eqb-suc-zero k) ∙ (ap (slice_get ls) back ∙ e)

number_there : (done : List Literal) (l : Literal) (ls : List Literal) → HasNumber (done ++ l ∷ ls) l
number_there done l ls = (suc (length done), numbered (done ++ l ∷ ls) (length done) l (there done l ls))

numbers_from : (done ls : List Literal) → HaveNumbers (done ++ ls) ls
numbers_from done [] = tt
numbers_from done (l ∷ ls) = (number_there done l ls, subst (λ (all : List Literal). HaveNumbers all ls) (append_assoc done (l ∷ []) ls) (numbers_from (done ++ l ∷ []) ls))

pub all_numbered : (ls : List Literal) → HaveNumbers ls ls
all_numbered ls = numbers_from [] ls

-- ---- bounds

-- a literal's form is this much of the form
record IsOf (all : List Literal) (f : Linear Term) (x : Affine) : Type 0 where
  number : ℕ
  form : Linear Term
  is : form_at all number ≡ Some form
  affine_is : affine f form ≡ Some x

module _ (all : List Literal) (f : Linear Term) where
  literal_is : (l : Literal) (x : Affine) → HasNumber all l → bound_by_literal f l ≡ Some x → IsOf all f x
  literal_is l x has e =
      let h = bind_some (form_of_literal (formula_of l)) (λ h. affine f h) x e in
      record {
        number = has.0;
        form = h.0;
        is = ap (λ (o : Option Literal). o >>= λ l. form_of_literal (formula_of l)) has.1 ∙ h.1;
        affine_is = h.2;
      }

  best_is : (side : Bool) (best : Option (Affine × ℤ)) (ls : List Literal) → HaveNumbers all ls → IsBest (IsOf all f) best → IsBest (IsOf all f) (best_bound side f best ls)
  best_is side best [] has h = h
  best_is side best (l ∷ ls) has h = best_is side (with_bound side best (bound_by_literal f l)) ls has.1 (best_with (IsOf all f) side best (bound_by_literal f l) h (λ x e. literal_is l x has.0 e))

bound_is : (node : Node) (side : Bool) (f : Linear Term) (x : Affine) → bound_of node side f ≡ Some x → IsOf node.literals f x
bound_is node side f x e = best_found (IsOf node.literals f) (best_bound side f None node.literals) x (best_is node.literals f side None node.literals (all_numbered node.literals) tt) e

-- ---- products

module _ (types : List Entry) (base : Node) where
  product_adds : (done : Node) (i j : ℕ) (p : Term) (o : Option Term) → Follows types base done → IsSorted p → product_stated base.literals i j p ≡ o → Follows types base (with_some done o)
  product_adds done i j p None h is e = h
  product_adds done i j p (Some g) h is e =
      adds types base done g h (product_sorted base.literals i j p g is e) (λ names real told. product_holds names base.literals i j p g told.literals e)

  with_two : (done : Node) (p s t : Term) (f g : Linear Term) (a b : Bool) → Follows types base done → IsSorted p → as_product p ≡ Some (s, t) → form_of s ≡ Some f → form_of t ≡ Some g → Follows types base (with_product p s t done (bound_of base a f) (bound_of base b g))
  with_two done p s t f g a b h is e1 e2 e3 = by (bound_of base a f) (bound_of base b g) refl refl
    where
      by : (o q : Option Affine) → bound_of base a f ≡ o → bound_of base b g ≡ q → Follows types base (with_product p s t done o q)
      by None q c d = h
      by (Some x) None c d = h
      by (Some x) (Some y) c d =
          let one = bound_is base a f x c in
          let two = bound_is base b g y d in
          product_adds done one.number two.number p (product_of p s t x y) h is (stated_is base.literals one.number two.number p s t f g one.form two.form x y e1 e2 e3 one.is two.is one.affine_is two.affine_is)

  four : (done : Node) (p s t : Term) (f g : Linear Term) → Follows types base done → IsSorted p → as_product p ≡ Some (s, t) → form_of s ≡ Some f → form_of t ≡ Some g → Follows types base (with_four base p s t f g done)
  four done p s t f g h is e1 e2 e3 =
      let first = with_two done p s t f g true true h is e1 e2 e3 in
      let second = with_two _ p s t f g true false first is e1 e2 e3 in
      let third = with_two _ p s t f g false true second is e1 e2 e3 in
      with_two _ p s t f g false false third is e1 e2 e3

  by_forms : (done : Node) (p s t : Term) (o q : Option (Linear Term)) → Follows types base done → IsSorted p → as_product p ≡ Some (s, t) → form_of s ≡ o → form_of t ≡ q → Follows types base (with_forms base p s t o q done)
  by_forms done p s t None q h is e1 e2 e3 = h
  by_forms done p s t (Some f) None h is e1 e2 e3 = h
  by_forms done p s t (Some f) (Some g) h is e1 e2 e3 = by (all_zero f.parts || all_zero g.parts)
    where
      by : (b : Bool) → Follows types base (cond b done (with_four base p s t f g done))
      by true = h
      by false = four done p s t f g h is e1 e2 e3

  products_of : (done : Node) (p : Term) (o : Option (Term × Term)) → Follows types base done → IsSorted p → as_product p ≡ o → Follows types base (with_products_of base p o done)
  products_of done p None h is e = h
  products_of done p (Some u) h is e = by_forms done p u.0 u.1 (form_of u.0) (form_of u.1) h is e refl refl

  products_by : (ts : List Term) (done : Node) → Follows types base done → AreSortedTerms ts → Follows types base (with_products_by base ts done)
  products_by [] done h are = h
  products_by (t ∷ ts) done h are = products_by ts (with_products_of base t (as_product t) done) (products_of done t (as_product t) h are.0 refl) are.1

-- the products of what stands in a node follow from it
pub products_follow : (types : List Entry) (node : Node) → IsSortedNode node → Follows types node (with_products node)
products_follow types node h = products_by types node (standing node) node (follows_self types node h) (node_sorted node h)
