-- Where a text is refused as a file of certificates.
use Rattle.std.specs.Prelude.{◌≡◌, ◌⊎◌, ℕ, zero, suc, ◌+◌, List, [], ◌++◌, codes, Err}
use Rattle.wy_data.specs.scan.Front.{AllPass, NotBehind}
use Rattle.wy_check_spec.specs.wy_cert.declared.fault.CertFault.{CertFault}
use Rattle.wy_check_spec.specs.wy_cert.declared.fault.CertFault.TheVariants.{BadHeader, BadStep, Truncated, TwiceCond, NoSuchCond, NoMemory}
use Rattle.wy_check_spec.specs.wy_cert.Steps.{Certificates}
use Rattle.wy_check_spec.specs.wy_cert.File.{is_inside, ReadsFile}
use Rattle.wy_check_laws.specs.reread.Grammar.{IsFirst, IsFile}

-- so many lines, each with its end
abbrev pub AreWholeLines : ℕ → List ℕ → Type 0
AreWholeLines zero text = text ≡ []
AreWholeLines (suc n) text = (line : List ℕ) × (rest : List ℕ) × IsFirst line rest text × AreWholeLines n rest

-- some file begins with the text
pub record BeginsFile (conds : ℕ) (text : List ℕ) : Type 0 where
  pub more : List ℕ
  pub certs : Certificates
  pub is : IsFile conds (text ++ more) certs

-- there is no line end but at the end
abbrev pub IsOnLine : List ℕ → Type 0
IsOnLine text = AllPass is_inside text ⊎ (line : List ℕ) × IsFirst line [] text

-- some file begins with the lines before line n, and none with these and what stands next, on line n
pub record StopsAt (conds : ℕ) (bytes : List ℕ) (n : ℕ) : Type 0 where
  pub before : ℕ
  pub number : n ≡ before + 1
  pub front : List ℕ
  pub next : List ℕ
  pub after : List ℕ
  pub cut : bytes ≡ front ++ (next ++ after)
  pub lines : AreWholeLines before front
  pub on : IsOnLine next
  pub begins : BeginsFile conds front
  pub none : (more : List ℕ) (certs : Certificates) → IsFile conds (front ++ (next ++ more)) certs → ⊥

-- some file begins with the lines before line n, the bytes end on line n without its end, and they are no file
pub record EndsAt (conds : ℕ) (bytes : List ℕ) (n : ℕ) : Type 0 where
  pub before : ℕ
  pub number : n ≡ before + 1
  pub front : List ℕ
  pub next : List ℕ
  pub cut : bytes ≡ front ++ next
  pub lines : AreWholeLines before front
  pub inside : AllPass is_inside next
  pub begins : BeginsFile conds front
  pub none : (certs : Certificates) → IsFile conds bytes certs → ⊥

-- the fault stands at its line
abbrev pub StandsAt : ℕ → List ℕ → CertFault → Type 0
StandsAt conds bytes (BadHeader n) = (n ≡ 1) × NotBehind (codes "wycert 1\n") bytes × NotBehind (codes "wycert 2\n") bytes
StandsAt conds bytes (Truncated n) = EndsAt conds bytes n
StandsAt conds bytes (BadStep n) = StopsAt conds bytes n
StandsAt conds bytes (TwiceCond n) = StopsAt conds bytes n
StandsAt conds bytes (NoSuchCond n) = StopsAt conds bytes n
StandsAt conds bytes NoMemory = ⊥

-- each fault that is read stands at its line
abbrev pub FaultsStand : Type 0
FaultsStand = (conds : ℕ) (bytes : List ℕ) (fault : CertFault) → ReadsFile conds bytes (Err fault) → StandsAt conds bytes fault
