-- A form that is found at a place.
use Rattle.std.proofs.Common.{◌≡◌, ℕ, zero, suc, List, [], ◌∷◌, map, None, refl}
use Rattle.std.specs.Prelude.{slice_get}
use Rattle.wy_lin.specs.declared.linear.Form.{Form}
use Rattle.wy_lin.specs.Linear.{nothing}
use Rattle.wy_lin.specs.Combination.{form_at}
use Rattle.wy_lin.specs.Seen.{linear_form}

pub form_lost : (all : List Form) (i : ℕ) → slice_get all i ≡ None → nothing ≡ form_at (map linear_form all) i
form_lost [] i e = refl
form_lost (x ∷ xs) zero e = absurd cc
form_lost (x ∷ xs) (suc i) e = form_lost xs i e
