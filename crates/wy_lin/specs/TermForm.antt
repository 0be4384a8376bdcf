-- Which linear form an Int term has, and which form is at least 0 exactly where a literal holds.
use Rattle.std.specs.Prelude.{ℤ, pos, Option, Some, None}
use Rattle.wy_term.specs.Term.{Term, Of, no_parts, part, two, number, add, sub, neg, mul, at_most, denied}
use Rattle.wy_term.specs.Same.{same_term}
use Rattle.wy_term.specs.Rewriting.{as_number}
use Rattle.wy_lin.specs.declared.arithmetic.Factor.{Factor}
use Rattle.wy_lin.specs.declared.arithmetic.Factor.TheVariants.{Times, Scale, Minus}
use Rattle.wy_lin.specs.Linear.{◌>>=◌, Linear, nothing, number_form, variable_form, plus}

-- a form and a multiple of another, over terms
abbrev pub with : Linear Term → Factor → Linear Term → Option (Linear Term)
with f m g = plus same_term f m g

-- a multiple of a form
abbrev pub multiple : Factor → Linear Term → Option (Linear Term)
multiple m f = with nothing m f

-- the form of a product: a number's multiple of a form where one factor is a number, else a variable
abbrev pub form_of_product : Term → Option ℤ → Option ℤ → Option (Linear Term) → Option (Linear Term) → Option (Linear Term)
form_of_product t (Some c) b f g = g >>= λ h. multiple (Scale c) h
form_of_product t None (Some c) f g = f >>= λ h. multiple (Scale c) h
form_of_product t None None f g = Some (variable_form t)

-- the form of an Int term, from its leaves up: numbers, sums, differences, opposites and products with a number are taken apart, and each other term is a variable
abbrev pub form_of : Term → Option (Linear Term)
form_of (Of (number z) ps) = Some (number_form z)
form_of (Of add (part s (part t no_parts))) = form_of s >>= λ f. form_of t >>= λ g. with f (Times 1) g
form_of (Of sub (part s (part t no_parts))) = form_of s >>= λ f. form_of t >>= λ g. with f Minus g
form_of (Of neg (part s no_parts)) = form_of s >>= λ f. multiple Minus f
form_of (Of mul (part s (part t no_parts))) = form_of_product (two mul s t) (as_number s) (as_number t) (form_of s) (form_of t)
form_of t = Some (variable_form t)

-- the second form less the first, the variables of the first one first
abbrev pub difference : Linear Term → Linear Term → Option (Linear Term)
difference f g = multiple (Scale (pos 0)) f >>= λ z. with z (Times 1) g >>= λ h. with h Minus f

-- the first form less the second and less 1
abbrev pub excess : Linear Term → Linear Term → Option (Linear Term)
excess f g = with f Minus g >>= λ h. with h Minus (number_form (pos 1))

-- the form that is at least 0 where the atom doesn't hold: s - t - 1 for `s <= t`
abbrev pub form_of_denial : Term → Option (Linear Term)
form_of_denial (Of at_most (part s (part t no_parts))) = form_of s >>= λ f. form_of t >>= λ g. excess f g
form_of_denial t = None

-- the form that is at least 0 where the literal holds: t - s for `s <= t`
abbrev pub form_of_literal : Term → Option (Linear Term)
form_of_literal (Of at_most (part s (part t no_parts))) = form_of s >>= λ f. form_of t >>= λ g. difference f g
form_of_literal (Of denied (part a no_parts)) = form_of_denial a
form_of_literal t = None
