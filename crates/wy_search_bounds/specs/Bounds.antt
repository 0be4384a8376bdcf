-- Which bounds of a factor the code keeps.
use Rattle.std.specs.Prelude.{◌≡◌, List, Bool, true, false, ℤ, neg_ℤ, ◌+ℤ◌, Option, Some, None}
use Rattle.wy_term.specs.Term.{Term}
use Rattle.wy_lin.specs.Linear.{◌>>=◌, Linear}
use Rattle.wy_lin.specs.TermForm.{form_of}
use Rattle.wy_cong.specs.wy_check_spec.judge.Node.{Literal, Node}
use Rattle.wy_cong.specs.wy_check_spec.valid.Products.{Affine, affine, as_product}
use Rattle.wy_cong.specs.wy_check_spec.valid.Sums.{all_zero, form_at}
use Rattle.wy_cong.specs.wy_search_spec.Expansion.{best_bound, with_product}
use Rattle.wy_search_bounds.specs.declared.tightest.Bound.{Bound}
use Rattle.wy_search_bounds.specs.declared.products.Bounds.{Bounds}

-- by how much what the code compares lies above where the bounds on a side stop
abbrev pub shift : Bool → ℤ → ℤ
shift true c = c
shift false c = neg_ℤ c

-- the literal with the number gives this bound of the factor with this form, and stops there
pub record IsBound (ls : List Literal) (f : Linear Term) (below : Bool) (b : Bound) (x : Affine × ℤ) : Type 0 where
  pub bound : (form_at ls b.number >>= λ h. affine f h) ≡ Some x.0
  pub at : b.at ≡ x.1 +ℤ shift below f.constant

-- both are the bound, or there is none
abbrev pub AreBounds : List Literal → Linear Term → Bool → Option Bound → Option (Affine × ℤ) → Type 0
AreBounds ls f below None given = given ≡ None
AreBounds ls f below (Some b) given = (x : Affine × ℤ) × (given ≡ Some x) × IsBound ls f below b x

-- the tightest bounds of a factor with this form
pub record AreTightest (ls : List Literal) (f : Linear Term) (b : Bounds) : Type 0 where
  pub lower : AreBounds ls f true b.lower (best_bound true f None ls)
  pub upper : AreBounds ls f false b.upper (best_bound false f None ls)

-- the form has no variable, or there is none
abbrev pub IsConstant : Option (Linear Term) → Type 0
IsConstant None = Unit {0}
IsConstant (Some f) = all_zero f.parts ≡ true

-- the form that a factor has, with a variable, and its tightest bounds
pub record IsFactor (ls : List Literal) (s : Term) (b : Bounds) : Type 0 where
  pub form : Linear Term
  pub is : form_of s ≡ Some form
  pub varies : all_zero form.parts ≡ false
  pub tightest : AreTightest ls form b

abbrev pub AreFactor : List Literal → Term → Option Bounds → Type 0
AreFactor ls s None = IsConstant (form_of s)
AreFactor ls s (Some b) = IsFactor ls s b

-- the form, where there is one with a variable
abbrev pub IsVarying : Option (Linear Term) → Option (Linear Term) → Type 0
IsVarying None given = IsConstant given
IsVarying (Some f) given = (given ≡ Some f) × (all_zero f.parts ≡ false)

-- where these are the bounds of the factors of a product, what the product of two of them adds to a node leads on
abbrev pub Pushes : List Literal → Term → Option Bound → Option Bound → ((Node → Node) → Type 0) → Type 0
Pushes ls p x y leads =
    (s t : Term) (f g : Linear Term) (b c : Bool) (v w : Option (Affine × ℤ)) → as_product p ≡ Some (s, t) → form_of s ≡ Some f → form_of t ≡ Some g → AreBounds ls f b x v → AreBounds ls g c y w
    → leads (λ done. with_product p s t done (v >>= λ q. Some q.0) (w >>= λ q. Some q.0))
