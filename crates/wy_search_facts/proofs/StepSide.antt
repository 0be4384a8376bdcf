-- What a step may add about a listed type.
use Rattle.std.proofs.Common.{ℕ, Option, Some}
use Rattle.wy_term.specs.Term.{Term}
use Rattle.wy_term.specs.Condition.{Entry}
use Rattle.wy_lin.specs.Linear.{◌>>=◌}
use Rattle.wy_cong.specs.wy_check_spec.valid.Membership.{unfolded_at}

abbrev pub added : Option Entry → ℕ → Term → Option Term
added o n v = o >>= λ e. Some (unfolded_at e n v)
