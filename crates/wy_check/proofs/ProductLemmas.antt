-- What a product of bounds states, stage by stage.
use Rattle.std.proofs.Common.{◌≡◌, ℕ, List, ℤ, ◌*ℤ◌, Option, Some, None, refl, sym, ap, ◌∙◌}
use Rattle.wy_lin.proofs.SharedLemmas.{some_form}
use Rattle.wy_term.specs.Term.{Term}
use Rattle.wy_term.specs.Rewriting.{fitted}
use Rattle.wy_vc_laws.specs.wy_check_spec.judge.Node.{Literal}
use Rattle.wy_lin.specs.Linear.{◌>>=◌, Linear}
use Rattle.wy_lin.specs.TermForm.{form_of}
use Rattle.wy_vc_laws.specs.wy_check_spec.valid.Sums.{form_at}
use Rattle.wy_vc_laws.specs.wy_check_spec.valid.Products.{Affine, affine, as_product, product_bound, product_of, product_stated}
use Rattle.wy_check.specs.declared.affine.Affine as code
use Rattle.wy_check.specs.declared.product.Numbers.{Numbers}
use Rattle.wy_check.specs.declared.whole.Whole.{Whole}
use Rattle.wy_check.specs.Seen.{IsFar, IsNear, IsAffine, four, numbers_of}
use Rattle.wy_check.specs.Stated.{Four, forms_of, measured}
use Rattle.wy_check.proofs.WholeLemmas.{far_first, far_second}

abbrev no_numbers : Option Numbers
no_numbers = None

-- ---- numbers

second_stops : (k l m n : Option ℤ) → None ≡ l → no_numbers ≡ four k l m n
second_stops None l m n e = refl
second_stops (Some x) None m n e = refl
second_stops (Some x) (Some y) m n e = absurd cc

third_stops : (k l m n : Option ℤ) → None ≡ m → no_numbers ≡ four k l m n
third_stops None l m n e = refl
third_stops (Some x) None m n e = refl
third_stops (Some x) (Some y) None n e = refl
third_stops (Some x) (Some y) (Some z) n e = absurd cc

-- the number added to the first form is far
pub first_far : (x y : code.Affine) (p q : Affine) → IsAffine x p → IsAffine y q → x.more ≡ None → no_numbers ≡ numbers_of p q
first_far x y p q is that none =
    third_stops (fitted (p.factor *ℤ q.factor)) (fitted (p.factor *ℤ q.more)) (fitted (p.more *ℤ q.factor)) (fitted (p.more *ℤ q.more))
    (far_first p.more q.factor y.factor.negative y.factor.size (far_of x.more p.more none is.more) that.factor that.nonzero)
  where
    far_of : (o : Option Whole) (z : ℤ) → o ≡ None → IsNear o z → IsFar z
    far_of None z e near = near
    far_of (Some w) z e near = absurd cc

pub second_far : (x y : code.Affine) (p q : Affine) → IsAffine x p → IsAffine y q → y.more ≡ None → no_numbers ≡ numbers_of p q
second_far x y p q is that none =
    second_stops (fitted (p.factor *ℤ q.factor)) (fitted (p.factor *ℤ q.more)) (fitted (p.more *ℤ q.factor)) (fitted (p.more *ℤ q.more))
    (far_second q.more p.factor x.factor.negative x.factor.size (far_of y.more q.more none that.more) is.factor is.nonzero)
  where
    far_of : (o : Option Whole) (z : ℤ) → o ≡ None → IsNear o z → IsFar z
    far_of None z e near = near
    far_of (Some w) z e near = absurd cc

-- ---- forms

abbrev no_forms : Option Four
no_forms = None

abbrev no_form : Option (Linear Term)
no_form = None

abbrev joined : Option (Linear Term) → Option (Linear Term) → Option (Linear Term) → Option (Linear Term) → Option Four
joined f g h k = f >>= λ a. g >>= λ b. h >>= λ c. k >>= λ d. Some (record { first = a; second = b; lower = c; upper = d })

pub forms_stop_fourth : (f g h k : Option (Linear Term)) → no_form ≡ k → no_forms ≡ joined f g h k
forms_stop_fourth None g h k e = refl
forms_stop_fourth (Some a) None h k e = refl
forms_stop_fourth (Some a) (Some b) None k e = refl
forms_stop_fourth (Some a) (Some b) (Some c) None e = refl
forms_stop_fourth (Some a) (Some b) (Some c) (Some d) e = absurd cc

abbrev some_four : Linear Term → Linear Term → Linear Term → Linear Term → Option Four
some_four a b c d = Some (record { first = a; second = b; lower = c; upper = d })

pub forms_are : (f g h k : Option (Linear Term)) (a b c d : Linear Term) → some_form a ≡ f → some_form b ≡ g → some_form c ≡ h → some_form d ≡ k → some_four a b c d ≡ joined f g h k
forms_are f g h k a b c d fe ge he ke =
    ap (λ (o : Option (Linear Term)). joined o (Some b) (Some c) (Some d)) fe
    ∙ (ap (λ (o : Option (Linear Term)). joined f o (Some c) (Some d)) ge
    ∙ (ap (λ (o : Option (Linear Term)). joined f g o (Some d)) he ∙ ap (joined f g h) ke))

-- ---- the whole

abbrev bound_of : Term → Term → Term → Numbers → Option Term
bound_of p s t q = Some (product_bound p s t q.both q.first q.second q.alone)

product_by : (p s t : Term) (x y : Affine) → product_of p s t x y ≡ (numbers_of x y >>= λ q. bound_of p s t q)
product_by p s t x y = by (fitted (x.factor *ℤ y.factor)) (fitted (x.factor *ℤ y.more)) (fitted (x.more *ℤ y.factor)) (fitted (x.more *ℤ y.more))
  where
    by : (k l m n : Option ℤ) → (k >>= λ a. l >>= λ b. m >>= λ c. n >>= λ d. Some (product_bound p s t a b c d)) ≡ (four k l m n >>= λ q. bound_of p s t q)
    by None l m n = refl
    by (Some a) None m n = refl
    by (Some a) (Some b) None n = refl
    by (Some a) (Some b) (Some c) None = refl
    by (Some a) (Some b) (Some c) (Some d) = refl

affine_by : (p s t : Term) (x y : Option Affine) → (x >>= λ a. y >>= λ b. product_of p s t a b) ≡ ((x >>= λ a. y >>= λ b. numbers_of a b) >>= λ q. bound_of p s t q)
affine_by p s t None y = refl
affine_by p s t (Some a) None = refl
affine_by p s t (Some a) (Some b) = product_by p s t a b

forms_by : (p s t : Term) (f g h k : Option (Linear Term)) → (f >>= λ a. g >>= λ b. h >>= λ c. k >>= λ d. affine a c >>= λ x. affine b d >>= λ y. product_of p s t x y) ≡ (joined f g h k >>= λ u. measured u >>= λ q. bound_of p s t q)
forms_by p s t None g h k = refl
forms_by p s t (Some a) None h k = refl
forms_by p s t (Some a) (Some b) None k = refl
forms_by p s t (Some a) (Some b) (Some c) None = refl
forms_by p s t (Some a) (Some b) (Some c) (Some d) = affine_by p s t (affine a c) (affine b d)

abbrev some_factors : Term × Term → Option (Term × Term)
some_factors u = Some u

stated_with : (ls : List Literal) (i j : ℕ) (p : Term) (u : Term × Term) → some_factors u ≡ as_product p → product_stated ls i j p ≡ (forms_of ls i j u.0 u.1 >>= λ f. measured f >>= λ q. bound_of p u.0 u.1 q)
stated_with ls i j p u e =
    sym (ap (λ (o : Option (Term × Term)). o >>= λ v. form_of v.0 >>= λ f. form_of v.1 >>= λ g. form_at ls i >>= λ h. form_at ls j >>= λ k. affine f h >>= λ x. affine g k >>= λ y. product_of p v.0 v.1 x y) e)
    ∙ forms_by p u.0 u.1 (form_of u.0) (form_of u.1) (form_at ls i) (form_at ls j)

abbrev nothing_stated : Option Term
nothing_stated = None

pub stated_no_forms : (ls : List Literal) (i j : ℕ) (p : Term) (u : Term × Term) → some_factors u ≡ as_product p → None ≡ forms_of ls i j u.0 u.1 → nothing_stated ≡ product_stated ls i j p
stated_no_forms ls i j p u e none = ap (λ (o : Option Four). o >>= λ f. measured f >>= λ q. bound_of p u.0 u.1 q) none ∙ sym (stated_with ls i j p u e)

abbrev some_forms : Four → Option Four
some_forms f = Some f

pub stated_no_numbers : (ls : List Literal) (i j : ℕ) (p : Term) (u : Term × Term) (f : Four) → some_factors u ≡ as_product p → some_forms f ≡ forms_of ls i j u.0 u.1 → None ≡ measured f → nothing_stated ≡ product_stated ls i j p
stated_no_numbers ls i j p u f e is none = ap (λ (o : Option Numbers). o >>= λ q. bound_of p u.0 u.1 q) none ∙ (ap (λ (o : Option Four). o >>= λ g. measured g >>= λ q. bound_of p u.0 u.1 q) is ∙ sym (stated_with ls i j p u e))

pub stated_all : (ls : List Literal) (i j : ℕ) (p : Term) (u : Term × Term) (f : Four) (q : Numbers) → some_factors u ≡ as_product p → some_forms f ≡ forms_of ls i j u.0 u.1 → Some q ≡ measured f → bound_of p u.0 u.1 q ≡ product_stated ls i j p
stated_all ls i j p u f q e is gave = ap (λ (o : Option Numbers). o >>= λ r. bound_of p u.0 u.1 r) gave ∙ (ap (λ (o : Option Four). o >>= λ g. measured g >>= λ r. bound_of p u.0 u.1 r) is ∙ sym (stated_with ls i j p u e))
