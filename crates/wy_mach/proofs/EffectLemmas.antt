-- What follows of an effect from what follows at each operand.
use Rattle.std.proofs.Common.{◌≡◌, Option, Some, None, refl}
use Rattle.wy_code_spec.specs.step.Step.{Effect, Fails, there}

pub by_there : {X : Type 0} (P : Effect → Type 0) (o : Option X) (next : X → Effect) → P Fails → ((x : X) → o ≡ Some x → P (next x)) → P (there o next)
by_there P None next fails goes = fails
by_there P (Some x) next fails goes = goes x refl
