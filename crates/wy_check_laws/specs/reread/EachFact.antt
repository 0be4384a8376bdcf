-- That what a step may add as a fact holds.
use Rattle.std.specs.Prelude.{◌≡◌, ℕ, List, [], ◌∷◌, true, Some}
use Rattle.wy_check_spec.specs.wy_facts.Membership.{entry_for}
use Rattle.wy_check_spec.specs.wy_term.Term.{Term, one, in_type}
use Rattle.wy_check_spec.specs.wy_term.Meaning.{Names, sense}
use Rattle.wy_check_spec.specs.wy_term.Condition.{Entry, AreUnfolded}
use Rattle.wy_check_spec.specs.wy_term.Unfolding.{AreClosed}
use Rattle.wy_check_spec.specs.valid.Membership.{unfolded_at, fact_among}
use Rattle.wy_check_laws.specs.sound.Sortedness.{AreSortedEntries, AreSortedTerms}

-- whatever the names stand for, where `in` of each listed type means the type's formula
abbrev pub EachFactHolds : Type 0
EachFactHolds = (names : Names) (types : List Entry) (n : ℕ) (ts : List Term) (f : Term)
    → AreUnfolded names types → AreClosed types → AreSortedEntries types → AreSortedTerms ts
    → fact_among types n ts ≡ Some f → (sense names f).truth ≡ true

-- of a listed type it is stated that a datum is of it exactly where its formula holds
abbrev pub TypesAreTold : Type 0
TypesAreTold = (types : List Entry) (n : ℕ) (e : Entry) (v : Term) → entry_for types n ≡ Some e → fact_among types 16 (one (in_type n) v ∷ []) ≡ Some (unfolded_at e n v)
