-- What the search of a program's conditions has to do with certificates of them.
use Rattle.std.specs.Prelude.{ℕ, List, [], ◌∷◌}
use Rattle.wy_search_bounds.specs.wy_core.Types.{Ty}
use Rattle.wy_search_bounds.specs.wy_core.CoreTree.{Core}
use Rattle.wy_search_bounds.specs.wy_term.Condition.{Condition}
use Rattle.wy_search_bounds.specs.wy_cert.Steps.{Certificates}
use Rattle.wy_search_bounds.specs.wy_search_spec.Tree.{found, IsVerdict}
use Rattle.wy_search_laws.specs.rounds.Leaves.{HasCertificate}
use Rattle.wy_search_bounds.specs.wy_sound_terms.formed.OwedConditions.{owed_conditions}
use Rattle.wy_search_bounds.specs.wy_vc_laws.shown.Certified.{AreCertified}
use Rattle.wy_search_bounds.specs.wy_vc_laws.shown.ReadSorted.{AreSortedCertificates}

-- the search finds the condition within a budget of leaves
pub record IsFound (c : Condition) : Type 0 where
  pub budget : ℕ
  pub leaves : ℕ
  pub found : IsVerdict c budget (found leaves)

abbrev pub AreFound : List Condition → Type 0
AreFound [] = Unit {0}
AreFound (c ∷ cs) = IsFound c × AreFound cs

-- each condition of the list that is found has a valid certificate
abbrev pub FoundHaveCertificates : List Condition → Type 0
FoundHaveCertificates [] = Unit {0}
FoundHaveCertificates (c ∷ cs) = (IsFound c → HasCertificate c) × FoundHaveCertificates cs

-- there are certificates of which, for each condition of the list, one is valid that has its number, from 1; their terms are of the sorts of their places
pub record HaveCertificates (cs : List Condition) : Type 0 where
  pub certs : Certificates
  pub sorted : AreSortedCertificates certs
  pub valid : AreCertified certs 1 cs

-- each condition of a program that is found, whatever the program and its flow types, and whatever becomes of its other conditions
abbrev pub FoundConditionsAreCertified : Type 0
FoundConditionsAreCertified = (core : Core ℕ) (flow : List Ty) → FoundHaveCertificates (owed_conditions core flow)

-- a program each of whose conditions is found
abbrev pub FoundProgramsAreCertified : Type 0
FoundProgramsAreCertified = (core : Core ℕ) (flow : List Ty) → AreFound (owed_conditions core flow) → HaveCertificates (owed_conditions core flow)
