-- What the schema states of a listed type.
use Rattle.std.proofs.Common.{ℕ, Option, Some}
use Rattle.wy_term.specs.Term.{Term, one, in_type}
use Rattle.wy_term.specs.Condition.{Entry}
use Rattle.wy_facts.specs.Made.{exactly_where}
use Rattle.wy_facts.specs.Schema.{◌>>=◌}
use Rattle.wy_facts.specs.Membership.{formula_of}

abbrev pub stated_of : Option Entry → ℕ → Term → Option Term
stated_of o n v = (o >>= λ e. Some (formula_of e v)) >>= λ f. Some (exactly_where (one (in_type n) v) f)
