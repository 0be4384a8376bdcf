-- That facts are true.
use Rattle.std.specs.Prelude.{◌≡◌, ℕ, List, true, Some}
use Rattle.wy_term_subst.specs.wy_term.Term.{Term}
use Rattle.wy_term_subst.specs.wy_term.Meaning.{Names, sense}
use Rattle.wy_facts.specs.Schema.{fact_of}

-- a formula holds, whatever its names stand for
abbrev pub AlwaysHolds : Term → Type 0
AlwaysHolds f = (names : Names) → (sense names f).truth ≡ true

-- what a schema states of its arguments holds, whatever their names stand for
abbrev pub FactsAreTrue : Type 0
FactsAreTrue = (n : ℕ) (args : List Term) (f : Term) → fact_of n args ≡ Some f → AlwaysHolds f
