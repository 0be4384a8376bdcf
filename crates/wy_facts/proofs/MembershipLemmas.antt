-- Facts that need no condition.
use Rattle.std.proofs.Common.{◌≡◌, ◌≢◌, ℕ, List, Bool, true, false, cond, eqb, Some, refl}
use Rattle.std.proofs.lemmas.Bool.{eqb-true}
use Rattle.wy_term_subst.specs.wy_term.Term.{Term}
use Rattle.wy_term_subst.specs.wy_term.Condition.{Entry}
use Rattle.wy_facts.specs.Schema.{fact_of}
use Rattle.wy_facts.specs.Membership.{membership_of, fact_in}
use Rattle.wy_facts.specs.Truth.{AlwaysHolds}
use Rattle.wy_facts.proofs.TruthLemmas.{fact_holds}

pub plain_holds : (types : List Entry) (n : ℕ) (ts : List Term) (f : Term) → n ≢ 16 → Some f ≡ fact_in types n ts → AlwaysHolds f
plain_holds types n ts f other e = either (eqb n 16) refl e
  where
    either : (b : Bool) → eqb n 16 ≡ b → Some f ≡ cond b (membership_of types ts) (fact_of n ts) → AlwaysHolds f
    either true h g = absurd (other (eqb-true n 16 h))
    either false h g = fact_holds n ts f g
