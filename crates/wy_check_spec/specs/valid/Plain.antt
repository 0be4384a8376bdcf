-- Certificates without products.
use Rattle.std.specs.Prelude.{◌≡◌, List, [], ◌∷◌, Bool, true, false, ◌&&◌}
use Rattle.wy_lin.specs.wy_term.Condition.{Condition}
use Rattle.wy_cert.specs.Steps.{Written, prod}
use Rattle.wy_check_spec.specs.valid.Validity.{first_bad, first_bad_plain}

abbrev pub is_plain : Written → Bool
is_plain (prod i j p) = false
is_plain s = true

-- no step is a product
abbrev pub are_plain : List Written → Bool
are_plain [] = true
are_plain (s ∷ steps) = is_plain s && are_plain steps

-- a certificate without products is valid, or has its first bad step, as if there were no products
abbrev pub PlainIsUnchanged : Type 0
PlainIsUnchanged = (c : Condition) (steps : List Written) → are_plain steps ≡ true → first_bad c steps ≡ first_bad_plain c steps
