-- What the product of two bounds states, and what becomes of a product whose factors aren't bounded so.
use Rattle.std.proofs.Common.{◌≡◌, ◌∙◌, ◌||◌, ℕ, List, Bool, true, false, cond, ℤ, Option, Some, None, refl, subst, sym, ap, ap₂}
use Rattle.wy_search_bounds.specs.Bounds.{AreBounds, AreTightest, IsConstant, Pushes}
use Rattle.wy_search_bounds.specs.declared.tightest.Bound.{Bound}
use Rattle.wy_search_bounds.specs.declared.products.Bounds.{Bounds}
use Rattle.wy_cong.specs.wy_check_spec.judge.Node.{Literal, Node}
use Rattle.wy_lin.specs.Linear.{◌>>=◌, Linear}
use Rattle.wy_lin.specs.TermForm.{form_of}
use Rattle.wy_cong.specs.wy_search_spec.Expansion.{with_forms, with_four, with_product, with_some}
use Rattle.wy_term.specs.Term.{Term}
use Rattle.wy_cong.specs.wy_check_spec.valid.Products.{Affine, affine, as_product, product_of, product_stated}
use Rattle.wy_cong.specs.wy_check_spec.valid.Sums.{all_zero, form_at}

by_forms : (p s t : Term) (f g : Linear Term) (x y : Affine) (h k : Option (Linear Term)) → (h >>= λ e. affine f e) ≡ Some x → (k >>= λ e. affine g e) ≡ Some y
    → (h >>= λ e. k >>= λ d. affine f e >>= λ a. affine g d >>= λ b. product_of p s t a b) ≡ product_of p s t x y
by_forms p s t f g x y None k first second = absurd cc
by_forms p s t f g x y (Some e) None first second = absurd cc
by_forms p s t f g x y (Some e) (Some d) first second =
    ap (λ (o : Option Affine). o >>= λ a. affine g d >>= λ b. product_of p s t a b) first ∙ ap (λ (o : Option Affine). o >>= λ b. product_of p s t x b) second

abbrev rest_of : List Literal → ℕ → ℕ → Term → Term × Term → Linear Term → Linear Term → Option Term
rest_of ls i j p u f g = form_at ls i >>= λ h. form_at ls j >>= λ k. affine f h >>= λ x. affine g k >>= λ y. product_of p u.0 u.1 x y

pub product_is : (ls : List Literal) (i j : ℕ) (p s t : Term) (f g : Linear Term) (x y : Affine) → as_product p ≡ Some (s, t) → form_of s ≡ Some f → form_of t ≡ Some g
    → (form_at ls i >>= λ h. affine f h) ≡ Some x → (form_at ls j >>= λ h. affine g h) ≡ Some y → product_stated ls i j p ≡ product_of p s t x y
product_is ls i j p s t f g x y factors one two first second =
    ap (λ (o : Option (Term × Term)). o >>= λ u. form_of u.0 >>= λ a. form_of u.1 >>= λ b. rest_of ls i j p u a b) factors
    ∙ ap (λ (o : Option (Linear Term)). o >>= λ a. form_of t >>= λ b. rest_of ls i j p (s, t) a b) one
    ∙ ap (λ (o : Option (Linear Term)). o >>= λ b. rest_of ls i j p (s, t) f b) two
    ∙ by_forms p s t f g x y (form_at ls i) (form_at ls j) first second

abbrev pub first_of : Option (Affine × ℤ) → Option Affine
first_of o = o >>= λ q. Some q.0

pub pushed : (ls : List Literal) (a b : Bound) (p s t : Term) (f g : Linear Term) (c d : Bool) (v w : Option (Affine × ℤ)) → as_product p ≡ Some (s, t) → form_of s ≡ Some f → form_of t ≡ Some g → AreBounds ls f c (Some a) v → AreBounds ls g d (Some b) w
    → (done : Node) → with_some done (product_stated ls a.number b.number p) ≡ with_product p s t done (first_of v) (first_of w)
pushed ls a b p s t f g c d v w factors one two x y done =
    ap (with_some done) (product_is ls a.number b.number p s t f g x.0.0 y.0.0 factors one two x.2.bound y.2.bound)
    ∙ sym (ap₂ (λ (m n : Option (Affine × ℤ)). with_product p s t done (first_of m) (first_of n)) x.1 y.1)

pub none_first : (p s t : Term) (v w : Option (Affine × ℤ)) → v ≡ None → (done : Node) → done ≡ with_product p s t done (first_of v) (first_of w)
none_first p s t v w none done = sym (ap (λ (m : Option (Affine × ℤ)). with_product p s t done (first_of m) (first_of w)) none)

pub none_second : (p s t : Term) (v w : Option (Affine × ℤ)) → w ≡ None → (done : Node) → done ≡ with_product p s t done (first_of v) (first_of w)
none_second p s t v w none done = by v ∙ sym (ap (λ (n : Option (Affine × ℤ)). with_product p s t done (first_of v) (first_of n)) none)
  where
    by : (m : Option (Affine × ℤ)) → done ≡ with_product p s t done (first_of m) None
    by None = refl
    by (Some q) = refl

-- ---- factors without a variable

pub constant_first : (node : Node) (p s t : Term) (g : Option (Linear Term)) (o : Option (Linear Term)) → IsConstant o → (done : Node) → done ≡ with_forms node p s t o g done
constant_first node p s t g None is done = refl
constant_first node p s t None (Some f) is done = refl
constant_first node p s t (Some g) (Some f) is done = sym (ap (λ (b : Bool). cond (b || all_zero g.parts) done (with_four node p s t f g done)) is)

pub constant_second : (node : Node) (p s t : Term) (f g : Option (Linear Term)) → IsConstant g → (done : Node) → done ≡ with_forms node p s t f g done
constant_second node p s t None g is done = refl
constant_second node p s t (Some f) None is done = refl
constant_second node p s t (Some f) (Some g) is done = sym (ap (λ (b : Bool). cond (all_zero f.parts || b) done (with_four node p s t f g done)) is ∙ or_true (all_zero f.parts))
  where
    or_true : (b : Bool) → cond (b || true) done (with_four node p s t f g done) ≡ done
    or_true true = refl
    or_true false = refl

pub both_vary : (node : Node) (p s t : Term) (f g : Linear Term) → form_of s ≡ Some f → form_of t ≡ Some g → all_zero f.parts ≡ false → all_zero g.parts ≡ false → (done : Node)
    → with_four node p s t f g done ≡ with_forms node p s t (form_of s) (form_of t) done
both_vary node p s t f g one two first second done =
    sym (ap₂ (λ (a b : Option (Linear Term)). with_forms node p s t a b done) one two
    ∙ ap₂ (λ (a b : Bool). cond (a || b) done (with_four node p s t f g done)) first second)

-- ---- as more terms are there

pub pushes_at : (now old : List Literal) (p q : Term) (x y : Option Bound) (leads : (Node → Node) → Type 0) → now ≡ old → p ≡ q → Pushes now p x y leads → Pushes old q x y leads
pushes_at now old p q x y leads same tree pushes =
    subst (λ (u : Term). Pushes old u x y leads) tree (subst (λ (ls : List Literal). Pushes ls p x y leads) same pushes)

pub tightest_at : (now old : List Literal) (f : Linear Term) (b : Bounds) → now ≡ old → AreTightest now f b → AreTightest old f b
tightest_at now old f b same are = subst (λ (ls : List Literal). AreTightest ls f b) same are

abbrev some_pair : Term → Term → Option (Term × Term)
some_pair a b = Some (a, b)

pub product_at : (p q s t u v : Term) → p ≡ q → s ≡ u → t ≡ v → as_product p ≡ Some (s, t) → as_product q ≡ Some (u, v)
product_at p q s t u v first second third is =
    sym (ap as_product first) ∙ is ∙ ap₂ (λ (a b : Term). some_pair a b) second third
