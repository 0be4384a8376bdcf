-- What the product of two bounds states.
use Rattle.std.specs.Prelude.{ℕ, List, [], ◌∷◌, Bool, false, ◌&&◌, not, if◌then◌else◌, ℤ, pos, ◌-ℤ◌, ◌*ℤ◌, Option, Some, None}
use Rattle.std.specs.Ordering.{int_eq}
use Rattle.wy_facts.specs.Schema.{only_if, zero_term}
use Rattle.wy_lin.specs.wy_term.Term.{Term, Of, no_parts, part, Number, add, mul}
use Rattle.wy_lin.specs.wy_term.Data.{quotient}
use Rattle.wy_lin.specs.wy_term.Same.{same_term}
use Rattle.wy_lin.specs.wy_term.Rewriting.{fitted}
use Rattle.wy_lin.specs.declared.arithmetic.Factor.TheVariants.{Scale, Minus}
use Rattle.wy_lin.specs.Linear.{◌>>=◌, Linear, coefficient}
use Rattle.wy_lin.specs.TermForm.{with, multiple, form_of}
use Rattle.wy_facts.specs.Made.{made_two, is_at_most}
use Rattle.wy_check_spec.specs.judge.Node.{Literal}
use Rattle.wy_check_spec.specs.valid.Sums.{form_at, all_zero}

-- the first variable that a form has, with its coefficient
abbrev pub leading : List (ℤ × Term) → Option (ℤ × Term)
leading [] = None
leading (p ∷ ps) = if int_eq p.0 (pos 0) then leading ps else Some p

-- the whole number other than 0 whose product with q is r, where there is one
abbrev pub ratio : ℤ → ℤ → Option ℤ
ratio q r = only_if (int_eq (quotient r q *ℤ q) r && not (int_eq (quotient r q) (pos 0))) (Some (quotient r q))

-- a form without its number
abbrev pub varying : Linear Term → Linear Term
varying f = record { parts = f.parts; constant = pos 0 }

abbrev pub vanishes : Option (Linear Term) → Bool
vanishes None = false
vanishes (Some h) = all_zero h.parts

-- the coefficients of g are a times those of f
abbrev pub is_multiple : ℤ → Linear Term → Linear Term → Bool
is_multiple a f g = vanishes (multiple (Scale a) (varying f) >>= λ h. with h Minus (varying g))

-- two numbers: a factor other than 0, and what is added
pub record Affine : Type 0 where
  pub factor : ℤ
  pub more : ℤ

-- the whole numbers a, other than 0, and c with g = a * f + c, where there are such and f has a variable
abbrev pub affine : Linear Term → Linear Term → Option Affine
affine f g =
    leading f.parts >>= λ p. ratio p.0 (coefficient same_term g.parts p.1) >>= λ a.
    only_if (is_multiple a f g) (Some (record { factor = a; more = g.constant -ℤ a *ℤ f.constant }))

-- the two factors of a product
abbrev pub as_product : Term → Option (Term × Term)
as_product (Of mul (part s (part t no_parts))) = Some (s, t)
as_product t = None

-- k * p + l * s + m * t + n is at least 0
abbrev pub product_bound : Term → Term → Term → ℤ → ℤ → ℤ → ℤ → Term
product_bound p s t k l m n =
    is_at_most zero_term (made_two add (made_two add (made_two add (made_two mul (Number k) p) (made_two mul (Number l) s)) (made_two mul (Number m) t)) (Number n))

-- the product of a * s + c and b * t + d is at least 0, where p is that of s and t and the four products fit 128 bits
abbrev pub product_of : Term → Term → Term → Affine → Affine → Option Term
product_of p s t x y =
    fitted (x.factor *ℤ y.factor) >>= λ k. fitted (x.factor *ℤ y.more) >>= λ l. fitted (x.more *ℤ y.factor) >>= λ m. fitted (x.more *ℤ y.more) >>= λ n.
    Some (product_bound p s t k l m n)

-- what two literals with the numbers i and j state of the product p: the form of the first is a * s + c, that of the second b * t + d
abbrev pub product_stated : List Literal → ℕ → ℕ → Term → Option Term
product_stated ls i j p =
    as_product p >>= λ u. form_of u.0 >>= λ f. form_of u.1 >>= λ g. form_at ls i >>= λ h. form_at ls j >>= λ k.
    affine f h >>= λ x. affine g k >>= λ y. product_of p u.0 u.1 x y
