-- What a step may add as a fact is what the schemas state.
use Rattle.std.specs.Prelude.{◌≡◌, ℕ, List}
use Rattle.wy_term.specs.Term.{Term}
use Rattle.wy_term.specs.Condition.{Entry}
use Rattle.wy_facts.specs.Membership.{fact_in}
use Rattle.wy_cong.specs.wy_check_spec.valid.Membership.{fact_among}

abbrev pub SameFacts : Type 0
SameFacts = (types : List Entry) (n : ℕ) (ts : List Term) → fact_among types n ts ≡ fact_in types n ts
