-- What the crates above prove of these words, each once.
use Rattle.std.proofs.Common.{Option, Some, ◌≡◌, ap}
use Rattle.wy_lin.specs.Linear.{Linear, ◌>>=◌}
use Rattle.wy_term.specs.Term.{Term}

abbrev pub some_form : Linear Term → Option (Linear Term)
some_form f = Some f

pub bind_is : {A B : Type 0} (o : Option A) (f : A → Option B) (x : A) → o ≡ Some x → (o >>= f) ≡ f x
bind_is o f x e = ap (λ q. q >>= f) e
