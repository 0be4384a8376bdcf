-- Which conditions a cache shows.
use Rattle.std.specs.Prelude.{◌≡◌, ℕ, ◌+◌, List, [], ◌∷◌, ◌++◌, codes, Some, Ok}
use Rattle.wy_term.specs.Condition.{Condition}
use Rattle.wy_cert.specs.Steps.{Written, Certificates}
use Rattle.wy_cert.specs.File.{ReadsFile}
use Rattle.wy_cert.specs.Only.{HasNone}
use Rattle.wy_check.specs.Verdicts.{certificate_for}
use Rattle.wy_check.specs.wy_vc_laws.wy_check_spec.valid.Validity.{IsValid}
use Rattle.wy_cache_text.specs.Files.{Entries}
use Rattle.wy_cache_text.specs.Found.{steps_for}
use Rattle.wy_cache.specs.Key.{key_of}

-- the file of certificates with these lines of steps for condition 1
abbrev pub file_with : List ℕ → List ℕ
file_with lines = codes "wycert 2\ncond 1\n" ++ (lines ++ codes "end\n")

-- these lines of steps are a certificate with these steps
pub record IsSteps (lines : List ℕ) (steps : List Written) : Type 0 where
  pub certs : Certificates
  pub read : ReadsFile 1 (file_with lines) (Ok certs)
  pub first : certificate_for certs 1 ≡ Some steps

-- the first entry with the condition's key has a certificate with these steps, and it is valid
pub record IsKept (es : Entries) (c : Condition) (steps : List Written) : Type 0 where
  pub lines : List ℕ
  pub found : steps_for es (key_of c) ≡ Some lines
  pub read : IsSteps lines steps
  pub valid : IsValid c steps

-- the certificates are one for the condition with this number, where it is kept, and these others
pub data IsRow (es : Entries) (n : ℕ) (c : Condition) (others certs : Certificates) : Type 0 where
  kept : (steps : List Written) → IsKept es c steps → certs ≡ (n, steps) ∷ others → IsRow es n c others certs
  not_kept : HasNone (IsKept es c) → certs ≡ others → IsRow es n c others certs

-- the certificates are those of the conditions that are kept, of a list whose first one has this number
abbrev pub AreKept : Entries → ℕ → List Condition → Certificates → Type 0
AreKept es n [] certs = certs ≡ []
AreKept es n (c ∷ cs) certs = (others : Certificates) × IsRow es n c others certs × AreKept es (n + 1) cs others
