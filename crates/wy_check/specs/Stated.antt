-- What a product of bounds is made of.
use Rattle.std.specs.Prelude.{ℕ, List, Option, Some}
use Rattle.wy_term.specs.Term.{Term}
use Rattle.wy_lin.specs.Linear.{◌>>=◌, Linear}
use Rattle.wy_lin.specs.TermForm.{form_of}
use Rattle.wy_lin.specs.Seen.{IsOver, linear_form, seen_form}
use Rattle.wy_vc_laws.specs.wy_check_spec.judge.Node.{Literal}
use Rattle.wy_vc_laws.specs.wy_check_spec.valid.Sums.{form_at}
use Rattle.wy_vc_laws.specs.wy_check_spec.valid.Products.{affine}
use Rattle.wy_check.specs.declared.product.Forms.{Forms}
use Rattle.wy_check.specs.declared.product.Numbers.{Numbers}
use Rattle.wy_check.specs.Seen.{numbers_of}

abbrev pub seen_factors : (ℕ → Term) → ℕ × ℕ → Term × Term
seen_factors at p = (at p.0, at p.1)

-- the forms of two factors and of two literals
pub record Four : Type 0 where
  pub first : Linear Term
  pub second : Linear Term
  pub lower : Linear Term
  pub upper : Linear Term

abbrev pub seen_forms : (ℕ → Term) → Forms → Four
seen_forms at f = record { first = seen_form at f.first; second = seen_form at f.second; lower = seen_form at f.lower; upper = seen_form at f.upper }

pub record AreFormsOver (n : ℕ) (f : Forms) : Type 0 where
  pub first : IsOver n (linear_form f.first)
  pub second : IsOver n (linear_form f.second)
  pub lower : IsOver n (linear_form f.lower)
  pub upper : IsOver n (linear_form f.upper)

-- the forms of these factors and of the literals with these numbers, where all have one
abbrev pub forms_of : List Literal → ℕ → ℕ → Term → Term → Option Four
forms_of ls i j s t =
    form_of s >>= λ f. form_of t >>= λ g. form_at ls i >>= λ h. form_at ls j >>= λ k.
    Some (record { first = f; second = g; lower = h; upper = k })

-- the numbers of the product of two bounds
abbrev pub measured : Four → Option Numbers
measured f = affine f.first f.lower >>= λ x. affine f.second f.upper >>= λ y. numbers_of x y
