-- Which conditions a file of certificates shows.
use Rattle.std.specs.Prelude.{◌≡◌, ℕ, ◌+◌, List, [], ◌∷◌, length, ◌⊎◌, Ok}
use Rattle.wy_check_laws.specs.wy_term.Nodes.{Plain}
use Rattle.wy_check_laws.specs.wy_term.declared.cond.Cond.{Cond}
use Rattle.wy_check_laws.specs.wy_term.Condition.{Condition, condition_of, HoldsAlways}
use Rattle.wy_check_laws.specs.wy_term.Unfolding.{AreClosed}
use Rattle.wy_check_laws.specs.wy_cert.declared.step.Cert.{Cert}
use Rattle.wy_check_laws.specs.wy_cert.declared.step.Certs.{Certs}
use Rattle.wy_check_laws.specs.wy_cert.Steps.{Written, Certificates, steps_of, certificates_of}
use Rattle.wy_check_laws.specs.wy_cert.File.{ReadsFile}
use Rattle.wy_check_laws.specs.wy_check_spec.valid.Validity.{IsValid}
use Rattle.wy_check_laws.specs.sound.Sortedness.{IsSortedCondition}

-- the pair stands in the list
abbrev pub Has : {A : Type 0} → List (ℕ × A) → ℕ → A → Type 0
Has [] n x = ⊥
Has (p ∷ ps) n x = ((p.0 ≡ n) × (p.1 ≡ x)) ⊎ Has ps n x

-- a condition whose terms are of the sorts that their places want, and each of whose types is told by a formula with no other free name than the one that is listed with it
pub record IsFormed (c : Condition) : Type 0 where
  pub sorted : IsSortedCondition c
  pub are_closed : AreClosed c.types

abbrev pub AreFormed : List Condition → Type 0
AreFormed [] = Unit {0}
AreFormed (c ∷ cs) = IsFormed c × AreFormed cs

-- one of the certificates, for the condition with this number, is valid for it
pub record IsCertified (certs : Certificates) (n : ℕ) (c : Condition) : Type 0 where
  pub steps : List Written
  pub stands : Has certs n steps
  pub valid : IsValid c steps

-- so is each condition of a list whose first one has this number
abbrev pub AreCertified : Certificates → ℕ → List Condition → Type 0
AreCertified certs n [] = Unit {0}
AreCertified certs n (c ∷ cs) = IsCertified certs n c × AreCertified certs (n + 1) cs

-- each condition of a list is true, whatever its names stand for
abbrev pub AllHold : List Condition → Type 0
AllHold [] = Unit {0}
AllHold (c ∷ cs) = HoldsAlways c × AllHold cs

-- whatever bytes were read: a condition with a valid certificate is true
abbrev pub ReadCertificateShows : Type 0
ReadCertificateShows = (conds : ℕ) (bytes : List ℕ) (certs : Certificates) (n : ℕ) (c : Condition) → ReadsFile conds bytes (Ok certs) → IsFormed c → IsCertified certs n c → HoldsAlways c

-- where the file has a valid certificate for each condition of a list, all of them are true
abbrev pub CertifiedConditionsHold : Type 0
CertifiedConditionsHold = (bytes : List ℕ) (certs : Certificates) (cs : List Condition) → ReadsFile (length cs) bytes (Ok certs) → AreFormed cs → AreCertified certs 1 cs → AllHold cs

-- the same for a certificate and a condition as the code keeps them, by the numbers of their terms
abbrev pub KeptCertificateShows : Type 0
KeptCertificateShows = (conds : ℕ) (bytes : List ℕ) (certs : Certs) (n : ℕ) (cert : Cert) (nodes : List Plain) (cond : Cond) → ReadsFile conds bytes (Ok (certificates_of certs)) → Has certs.list.items n cert → IsFormed (condition_of nodes cond) → IsValid (condition_of nodes cond) (steps_of cert) → HoldsAlways (condition_of nodes cond)
