-- What a step may add as a fact holds.
use Rattle.std.proofs.Common.{◌≡◌, ℕ, List, [], ◌∷◌, Bool, true, false, cond, eqb, Option, Some, ap}
use Rattle.wy_check_spec.specs.wy_term.Term.{Term}
use Rattle.wy_check_spec.specs.wy_term.Meaning.{Names, sense}
use Rattle.wy_check_spec.specs.wy_term.Condition.{Entry, AreUnfolded}
use Rattle.wy_check_spec.specs.wy_term.Unfolding.{AreClosed}
use Rattle.wy_check_spec.specs.wy_lin.Linear.{◌>>=◌}
use Rattle.wy_check_spec.specs.wy_facts.Schema.{fact_of}
use Rattle.wy_check_spec.proofs.wy_facts_proofs.TruthLemmas.{facts_are_true}
use Rattle.wy_check_spec.specs.valid.Membership.{unfolded_at, membership_by}
use Rattle.wy_check_laws.specs.sound.Sortedness.{AreSortedEntries, AreSortedTerms}
use Rattle.wy_check_laws.proofs.sound_lemmas.MemberLemmas.{membership_holds}
use Rattle.wy_check_laws.specs.reread.EachFact.{EachFactHolds, TypesAreTold}

by_types : (names : Names) (types : List Entry) (ts : List Term) (f : Term) → AreUnfolded names types → AreClosed types → AreSortedEntries types → AreSortedTerms ts → membership_by types ts ≡ Some f → (sense names f).truth ≡ true
by_types names types [] f real closed sorted h e = absurd cc
by_types names types (t ∷ []) f real closed sorted h e = membership_holds names types t f real closed sorted h.0 e
by_types names types (t ∷ u ∷ us) f real closed sorted h e = absurd cc

by_number : (names : Names) (types : List Entry) (n : ℕ) (ts : List Term) (f : Term) (b : Bool) → AreUnfolded names types → AreClosed types → AreSortedEntries types → AreSortedTerms ts → cond b (membership_by types ts) (fact_of n ts) ≡ Some f → (sense names f).truth ≡ true
by_number names types n ts f true real closed sorted h e = by_types names types ts f real closed sorted h e
by_number names types n ts f false real closed sorted h e = facts_are_true n ts f e names

pub each_fact_holds : EachFactHolds
each_fact_holds names types n ts f real closed sorted h e = by_number names types n ts f (eqb n 16) real closed sorted h e

pub types_are_told : TypesAreTold
types_are_told types n e v is = ap (λ (o : Option Entry). o >>= λ x. Some (unfolded_at x n v)) is
