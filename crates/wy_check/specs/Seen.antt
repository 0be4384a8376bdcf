-- What the code's numbers stand for.
use Rattle.std.specs.Prelude.{◌≡◌, ℕ, ◌<◌, ◌^◌, Bool, true, false, ℤ, pos, neg_ℤ, ◌*ℤ◌, Option, Some, None}
use Rattle.wy_term.specs.Rewriting.{fitted}
use Rattle.wy_lin.specs.declared.arithmetic.Factor.{Factor}
use Rattle.wy_lin.specs.declared.arithmetic.Factor.TheVariants.{Scale, Minus}
use Rattle.wy_lin.specs.Linear.{◌>>=◌}
use Rattle.wy_vc_laws.specs.wy_check_spec.valid.Products as products
use Rattle.wy_check.specs.declared.whole.Whole.{Whole}
use Rattle.wy_check.specs.declared.multiples.Measure.{Measure}
use Rattle.wy_check.specs.declared.multiples.Measure.TheVariants as measure
use Rattle.wy_check.specs.declared.affine.Affine.{Affine}
use Rattle.wy_check.specs.declared.product.Numbers.{Numbers}

-- the number with this sign and this size
abbrev pub signed_number : Bool → ℕ → ℤ
signed_number true n = neg_ℤ (pos n)
signed_number false n = pos n

abbrev pub number_of : Whole → ℤ
number_of w = signed_number w.negative w.size

-- no multiple of the number but 0 is one of 128 bits
pub record IsFar (z : ℤ) : Type 0 where
  pub sign : Bool
  pub size : ℕ
  pub is : z ≡ signed_number sign size
  pub far : 2 ^ 127 < size

-- the number, unless it is far
abbrev pub IsNear : Option Whole → ℤ → Type 0
IsNear (Some w) z = number_of w ≡ z
IsNear None z = IsFar z

-- how often a form is added
abbrev pub factor_of : Measure → Factor
factor_of (measure.Times a) = Scale (number_of a)
factor_of measure.Minus = Minus

-- the two numbers are those
pub record IsAffine (x : Affine) (y : products.Affine) : Type 0 where
  pub factor : number_of x.factor ≡ y.factor
  pub nonzero : 0 < x.factor.size
  pub more : IsNear x.more y.more

abbrev pub AreAffine : Option Affine → Option products.Affine → Type 0
AreAffine (Some x) given = (y : products.Affine) × (given ≡ Some y) × IsAffine x y
AreAffine None given = given ≡ None

-- four numbers, where there are four
abbrev pub four : Option ℤ → Option ℤ → Option ℤ → Option ℤ → Option Numbers
four k l m n = k >>= λ a. l >>= λ b. m >>= λ c. n >>= λ d. Some (record { both = a; first = b; second = c; alone = d })

-- the four numbers of a product, where they fit 128 bits
abbrev pub numbers_of : products.Affine → products.Affine → Option Numbers
numbers_of x y = four (fitted (x.factor *ℤ y.factor)) (fitted (x.factor *ℤ y.more)) (fitted (x.more *ℤ y.factor)) (fitted (x.more *ℤ y.more))
