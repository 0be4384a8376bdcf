-- What answers that are known say of their parts.
use Rattle.std.proofs.Common.{◌≡◌, Bool, true, false, cond, ℤ, Option, Some, None, refl}
use Rattle.wy_term.proofs.wy_lemmas_proofs.Options.{some}
use Rattle.wy_term.specs.Rewriting.{fits, fitted}
use Rattle.wy_lin.specs.Linear.{◌>>=◌}

-- both of two successive answers are there
pub bind_some : {A B : Type 0} (o : Option A) (f : A → Option B) (y : B) → (o >>= f) ≡ Some y → (x : A) × (o ≡ Some x) × (f x ≡ Some y)
bind_some (Some x) f y e = (x, refl, e)
bind_some None f y e = absurd cc

if_some : {A : Type 0} (b : Bool) (x y : A) → cond b (some x) None ≡ some y → x ≡ y
if_some true x y e = cc
if_some false x y e = absurd cc

pub fitted_is : (z w : ℤ) → fitted z ≡ Some w → z ≡ w
fitted_is z w e = if_some (fits z) z w e
