-- What the crates above prove of these words, each once.
use Rattle.std.proofs.Common.{◌≡◌, ◌∙◌, ◌-◌, ℕ, suc, List, Bool, cond, None, ap, arith, Some}
use Rattle.std.proofs.Math.Dec.{eqb-suc-zero}
use Rattle.std.specs.Prelude.{slice_get}
use Rattle.wy_check_spec.specs.judge.Node.{Literal}
use Rattle.wy_lin.proofs.SharedLemmas.{bind_is}
use Rattle.wy_lin.specs.Linear.{◌>>=◌, Linear}
use Rattle.wy_lin.specs.TermForm.{form_of}
use Rattle.wy_lin.specs.wy_term.Term.{Term}
use Rattle.wy_check_spec.specs.valid.Literals.{literal_at}
use Rattle.wy_check_spec.specs.valid.Products.{Affine, affine, as_product, product_of, product_stated}
use Rattle.wy_check_spec.specs.valid.Sums.{form_at}

pub numbered : (ls : List Literal) (i : ℕ) → literal_at ls (suc i) ≡ slice_get ls i
numbered ls i = let back : suc i - 1 ≡ i = omega arith in ap (λ (b : Bool). cond b None (slice_get ls (suc i - 1))) (eqb-suc-zero i) ∙ ap (slice_get ls) back

pub stated_is : (ls : List Literal) (i j : ℕ) (p s t : Term) (f g h k : Linear Term) (x y : Affine) → as_product p ≡ Some (s, t) → form_of s ≡ Some f → form_of t ≡ Some g → form_at ls i ≡ Some h → form_at ls j ≡ Some k → affine f h ≡ Some x → affine g k ≡ Some y → product_stated ls i j p ≡ product_of p s t x y
stated_is ls i j p s t f g h k x y e1 e2 e3 e4 e5 e6 e7 =
    bind_is (as_product p) (λ (u : Term × Term). form_of u.0 >>= λ f. form_of u.1 >>= λ g. form_at ls i >>= λ h. form_at ls j >>= λ k. affine f h >>= λ x. affine g k >>= λ y. product_of p u.0 u.1 x y) (s, t) e1
    ∙ (bind_is (form_of s) (λ (f : Linear Term). form_of t >>= λ g. form_at ls i >>= λ h. form_at ls j >>= λ k. affine f h >>= λ x. affine g k >>= λ y. product_of p s t x y) f e2
    ∙ (bind_is (form_of t) (λ (g : Linear Term). form_at ls i >>= λ h. form_at ls j >>= λ k. affine f h >>= λ x. affine g k >>= λ y. product_of p s t x y) g e3
    ∙ (bind_is (form_at ls i) (λ (h : Linear Term). form_at ls j >>= λ k. affine f h >>= λ x. affine g k >>= λ y. product_of p s t x y) h e4
    ∙ (bind_is (form_at ls j) (λ (k : Linear Term). affine f h >>= λ x. affine g k >>= λ y. product_of p s t x y) k e5
    ∙ (bind_is (affine f h) (λ (x : Affine). affine g k >>= λ y. product_of p s t x y) x e6
    ∙ bind_is (affine g k) (λ (y : Affine). product_of p s t x y) y e7)))))
