-- Which named types a condition lists.
use Rattle.std.specs.Prelude.{◌≡◌, ◌<◌, ◌⊎◌, ℕ, List, [], ◌∷◌, length, true}
use Rattle.wy_sound_terms.specs.wy_core.Types.{Ty}
use Rattle.wy_sound_terms.specs.wy_core.CoreTree.{Core, aliases_of}
use Rattle.wy_check_laws.specs.wy_term.Term.{Term}
use Rattle.wy_check_laws.specs.wy_term.Condition.{Entry, Condition}
use Rattle.wy_sound_terms.specs.wy_vc_spec.Limits.{tests_in, is_among}
use Rattle.wy_sound_terms.specs.formed.OwedConditions.{owed_conditions}

-- one of the entries is for the type with this number
abbrev pub IsListed : ℕ → List Entry → Type 0
IsListed n [] = ⊥
IsListed n (e ∷ es) = (n ≡ e.type_number) ⊎ IsListed n es

-- somewhere the formula asks whether a datum is of the type with this number
abbrev pub Tests : Term → ℕ → Type 0
Tests f n = is_among (tests_in f) n ≡ true

-- each of the first so many types about which the formula asks is listed
abbrev pub AreTestsListed : ℕ → List Entry → Term → Type 0
AreTestsListed count listed f = (n : ℕ) → n < count → Tests f n → IsListed n listed

abbrev pub AllTestsListed : ℕ → List Entry → List Term → Type 0
AllTestsListed count listed [] = Unit {0}
AllTestsListed count listed (f ∷ fs) = AreTestsListed count listed f × AllTestsListed count listed fs

-- so it is for the formula of each of these entries
abbrev pub FormulasTestListed : ℕ → List Entry → List Entry → Type 0
FormulasTestListed count listed [] = Unit {0}
FormulasTestListed count listed (e ∷ es) = AreTestsListed count listed e.formula × FormulasTestListed count listed es

-- a condition of a program with so many types lists each of them about which a hypothesis, the goal or the formula of a listed type asks, and no other
pub record ListsItsTypes (count : ℕ) (c : Condition) : Type 0 where
  pub hyps : AllTestsListed count c.types c.hyps
  pub goal : AreTestsListed count c.types c.goal
  pub types : FormulasTestListed count c.types c.types
  pub declared : (n : ℕ) → IsListed n c.types → n < count

abbrev pub AllListTheirTypes : ℕ → List Condition → Type 0
AllListTheirTypes count [] = Unit {0}
AllListTheirTypes count (c ∷ cs) = ListsItsTypes count c × AllListTheirTypes count cs

-- whatever the program and its flow types
abbrev pub OwedConditionsListTheirTypes : Type 0
OwedConditionsListTheirTypes = (core : Core ℕ) (flow : List Ty) → AllListTheirTypes (length (aliases_of core)) (owed_conditions core flow)
