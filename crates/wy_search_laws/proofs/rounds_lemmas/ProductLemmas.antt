-- The products of a node's bounds, steps add to each node that has the node's literals.
use Rattle.std.proofs.Common.{◌≡◌, ◌∙◌, List, [], ◌∷◌, Bool, true, false, cond, ◌||◌, ℤ, pos, Option, Some, None, refl, ap, subst}
use Rattle.std.specs.Prelude.{int_lt, unsigned_abs}
use Rattle.std.specs.Bool.{beq}
use Rattle.wy_lemmas.proofs.Options.{some_same as some_is}
use Rattle.wy_search_bounds.specs.wy_term.Term as term
use Rattle.wy_search_bounds.specs.wy_term.Term.{Term, Of, no_parts, part}
use Rattle.wy_search_bounds.specs.wy_term.Data.{quotient_down}
use Rattle.wy_search_bounds.specs.wy_term.Condition.{Entry}
use Rattle.wy_search_bounds.specs.wy_term_subst.sorted.Sorted.{IsSorted}
use Rattle.wy_search_bounds.specs.wy_term_text.reread.Folded.{IsFolded}
use Rattle.wy_search_bounds.specs.wy_lin.Linear.{◌>>=◌, Linear}
use Rattle.wy_search_bounds.specs.wy_lin.TermForm.{form_of, form_of_literal}
use Rattle.wy_search_bounds.proofs.wy_lin_proofs.OptionLemmas.{bind_some}
use Rattle.wy_search_bounds.specs.wy_cert.Steps.{prod}
use Rattle.wy_search_bounds.specs.wy_check_spec.judge.Node.{Literal, same_literal, has_literal, Node}
use Rattle.wy_search_bounds.proofs.wy_check_spec_proofs.valid_lemmas.SharedLemmas.{stated_is}
use Rattle.wy_search_bounds.specs.wy_check_spec.valid.Literals.{formula_of}
use Rattle.wy_search_bounds.specs.wy_check_spec.valid.Sums.{all_zero}
use Rattle.wy_search_bounds.specs.wy_check_spec.valid.Products.{Affine, affine, as_product, product_of}
use Rattle.wy_search_bounds.specs.wy_check_spec.valid.Validity.{left_with_one}
use Rattle.wy_search_bounds.specs.wy_search_spec.Standing.{standing}
use Rattle.wy_search_bounds.specs.wy_search_spec.Expansion.{with_some, tighter, with_bound, bound_by_literal, best_bound, bound_of, with_product, with_four, with_forms, with_products_of, with_products_by, with_products}
use Rattle.wy_search_bounds.specs.wy_check_laws.sound.Sortedness.{AreSortedTerms}
use Rattle.wy_search_bounds.proofs.wy_check_laws_proofs.sound_lemmas.NodeLemmas.{IsSortedNode}
use Rattle.wy_search_laws.specs.closing.AtLeast.{IsAtLeast}
use Rattle.wy_search_laws.proofs.closing_lemmas.BestLemmas.{IsBest, best_with, best_found}
use Rattle.wy_search_laws.proofs.closing_lemmas.AtLeastLemmas.{stands_at, literal_self}
use Rattle.wy_search_laws.proofs.closing_lemmas.Closing.{AreFoldedTerms, IsFoldedNode, LeadsOn}
use Rattle.wy_search_laws.proofs.rounds_lemmas.FoldedMade.{product_folded}
use Rattle.wy_search_laws.proofs.rounds_lemmas.RoundLemmas.{Grows, grows_self, Adds, adds}
use Rattle.wy_search_laws.proofs.rounds_lemmas.PresentLemmas.{standing_sorted, standing_folded}

-- ---- bounds

-- a literal's form is this much of the form
record IsOf (all : List Literal) (f : Linear Term) (x : Affine) : Type 0 where
  literal : Literal
  there : has_literal all literal ≡ true
  form : Linear Term
  is : form_of_literal (formula_of literal) ≡ Some form
  affine_is : affine f form ≡ Some x

module _ (all : List Literal) (f : Linear Term) where
  by_literal : (l : Literal) (x : Affine) → has_literal all l ≡ true → bound_by_literal f l ≡ Some x → IsOf all f x
  by_literal l x has e =
      let h = bind_some (form_of_literal (formula_of l)) (λ h. affine f h) x e in
      record { literal = l; there = has; form = h.0; is = h.1; affine_is = h.2 }

  best_is : (side : Bool) (best : Option (Affine × ℤ)) (ls : List Literal) → ((l : Literal) → has_literal ls l ≡ true → has_literal all l ≡ true) → IsBest (IsOf all f) best → IsBest (IsOf all f) (best_bound side f best ls)
  best_is side best [] among h = h
  best_is side best (l ∷ ls) among h =
      best_is side (with_bound side best (bound_by_literal f l)) ls (λ k e. among k (behind k e)) (best_with (IsOf all f) side best (bound_by_literal f l) h (λ x e. by_literal l x (among l front) e))
    where
      front : has_literal (l ∷ ls) l ≡ true
      front = ap (λ (b : Bool). cond b true (has_literal ls l)) (literal_self l)

      behind : (k : Literal) → has_literal ls k ≡ true → has_literal (l ∷ ls) k ≡ true
      behind k e = by (same_literal l k)
        where
          by : (b : Bool) → cond b true (has_literal ls k) ≡ true
          by true = refl
          by false = e

bound_is : (node : Node) (side : Bool) (f : Linear Term) (x : Affine) → bound_of node side f ≡ Some x → IsOf node.literals f x
bound_is node side f x e = best_found (IsOf node.literals f) (best_bound side f None node.literals) x (best_is node.literals f side None node.literals (λ l h. h) tt) e

-- ---- products

factors : (p s t : Term) → IsFolded p → as_product p ≡ Some (s, t) → IsFolded s × IsFolded t
factors (Of term.mul (part u (part v no_parts))) s t h e =
    let pair : (u, v) ≡ (s, t) = some_is (u, v) (s, t) e in
    (subst IsFolded (ap (λ (q : Term × Term). q.0) pair) h.1.0, subst IsFolded (ap (λ (q : Term × Term). q.1) pair) h.1.1.0)
factors p s t h e = absurd cc

module _ (types : List Entry) (leads_on : LeadsOn types) (base : Node) where
  product_adds : (more : Node) (p s t g : Term) (f e : Linear Term) (x y : Affine) → IsOf base.literals f x → IsOf base.literals e y → IsSorted p → as_product p ≡ Some (s, t) → form_of s ≡ Some f → form_of t ≡ Some e → product_of p s t x y ≡ Some g → IsAtLeast base more → Adds types more (g ∷ [])
  product_adds more p s t g f e x y one two is e1 e2 e3 e4 keeps =
      let i = stands_at more.literals one.literal (keeps.literals one.literal one.there) in
      let j = stands_at more.literals two.literal (keeps.literals two.literal two.there) in
      let here = ap (λ (o : Option Literal). o >>= λ l. form_of_literal (formula_of l)) i.is ∙ one.is in
      let there = ap (λ (o : Option Literal). o >>= λ l. form_of_literal (formula_of l)) j.is ∙ two.is in
      record {
        step = prod i.number j.number p;
        sorted = is;
        is = ap (λ (o : Option Term). o >>= left_with_one more) (stated_is more.literals i.number j.number p s t f e one.form two.form x y e1 e2 e3 here there one.affine_is two.affine_is ∙ e4);
      }

  with_one : (done : Node) (p s t : Term) (f e : Linear Term) (x y : Affine) (o : Option Term) → Grows types base done → IsSorted p → IsFolded p → IsOf base.literals f x → IsOf base.literals e y → as_product p ≡ Some (s, t) → form_of s ≡ Some f → form_of t ≡ Some e → product_of p s t x y ≡ o → Grows types base (with_some done o)
  with_one done p s t f e x y None h is folded one two e1 e2 e3 e4 = h
  with_one done p s t f e x y (Some g) h is folded one two e1 e2 e3 e4 =
      let parts = factors p s t folded e1 in
      adds types leads_on base done g h (product_folded p s t x y g folded parts.0 parts.1 e4) (λ more keeps. product_adds more p s t g f e x y one two is e1 e2 e3 e4 keeps)

  with_two : (done : Node) (p s t : Term) (f g : Linear Term) (a b : Bool) → Grows types base done → IsSorted p → IsFolded p → as_product p ≡ Some (s, t) → form_of s ≡ Some f → form_of t ≡ Some g → Grows types base (with_product p s t done (bound_of base a f) (bound_of base b g))
  with_two done p s t f g a b h is folded e1 e2 e3 = by (bound_of base a f) (bound_of base b g) refl refl
    where
      by : (o q : Option Affine) → bound_of base a f ≡ o → bound_of base b g ≡ q → Grows types base (with_product p s t done o q)
      by None q c d = h
      by (Some x) None c d = h
      by (Some x) (Some y) c d = with_one done p s t f g x y (product_of p s t x y) h is folded (bound_is base a f x c) (bound_is base b g y d) e1 e2 e3 refl

  four : (done : Node) (p s t : Term) (f g : Linear Term) → Grows types base done → IsSorted p → IsFolded p → as_product p ≡ Some (s, t) → form_of s ≡ Some f → form_of t ≡ Some g → Grows types base (with_four base p s t f g done)
  four done p s t f g h is folded e1 e2 e3 =
      let first = with_two done p s t f g true true h is folded e1 e2 e3 in
      let second = with_two _ p s t f g true false first is folded e1 e2 e3 in
      let third = with_two _ p s t f g false true second is folded e1 e2 e3 in
      with_two _ p s t f g false false third is folded e1 e2 e3

  by_forms : (done : Node) (p s t : Term) (o q : Option (Linear Term)) → Grows types base done → IsSorted p → IsFolded p → as_product p ≡ Some (s, t) → form_of s ≡ o → form_of t ≡ q → Grows types base (with_forms base p s t o q done)
  by_forms done p s t None q h is folded e1 e2 e3 = h
  by_forms done p s t (Some f) None h is folded e1 e2 e3 = h
  by_forms done p s t (Some f) (Some g) h is folded e1 e2 e3 = by (all_zero f.parts || all_zero g.parts)
    where
      by : (b : Bool) → Grows types base (cond b done (with_four base p s t f g done))
      by true = h
      by false = four done p s t f g h is folded e1 e2 e3

  products_of : (done : Node) (p : Term) (o : Option (Term × Term)) → Grows types base done → IsSorted p → IsFolded p → as_product p ≡ o → Grows types base (with_products_of base p o done)
  products_of done p None h is folded e = h
  products_of done p (Some u) h is folded e = by_forms done p u.0 u.1 (form_of u.0) (form_of u.1) h is folded e refl refl

  products_by : (ts : List Term) (done : Node) → Grows types base done → AreSortedTerms ts → AreFoldedTerms ts → Grows types base (with_products_by base ts done)
  products_by [] done h are folded = h
  products_by (t ∷ ts) done h are folded = products_by ts (with_products_of base t (as_product t) done) (products_of done t (as_product t) h are.0 folded.0 refl) are.1 folded.1

  pub products_grow : IsSortedNode base → IsFoldedNode base → Grows types base (with_products base)
  products_grow h g = products_by (standing base) base (grows_self types base h g) (standing_sorted base h) (standing_folded base g)
