-- Which texts are files of which certificates.
use Rattle.std.specs.Prelude.{◌≡◌, ◌↔◌, ◌⊎◌, ℕ, zero, suc, ◌+◌, ◌≤◌, List, [], ◌∷◌, ◌++◌, Bool, true, false, codes, Ok}
use Rattle.wy_data.specs.scan.Front.{AllPass}
use Rattle.wy_check_spec.specs.wy_cert.Steps.{Written, children, Certificates}
use Rattle.wy_check_spec.specs.wy_cert.Lines.{IsStep}
use Rattle.wy_check_spec.specs.wy_cert.File.{is_inside, IsCondition, is_listed, ReadsFile}

-- the text is this line, which no line end stands in, its end, and what follows
pub record IsFirst (line rest text : List ℕ) : Type 0 where
  pub is : text ≡ line ++ 10 ∷ rest
  pub inside : AllPass is_inside line

-- the text is the lines of these steps, each with its end; `prod` may stand where products are allowed
abbrev pub AreLines : Bool → List Written → List ℕ → Type 0
AreLines products [] text = text ≡ []
AreLines products (s ∷ steps) text = (line : List ℕ) × (rest : List ℕ) × IsFirst line rest text × IsStep products line s × AreLines products steps rest

-- the steps are those of so many trees, each step before what stands below it
abbrev pub AreTrees : ℕ → List Written → Type 0
AreTrees zero [] = Unit {0}
AreTrees zero (s ∷ steps) = ⊥
AreTrees (suc more) [] = ⊥
AreTrees (suc more) (s ∷ steps) = AreTrees (more + children s) steps

-- the text is the line that opens a certificate, and the lines of its steps, which are those of one tree
pub record IsCertificate (products : Bool) (c : ℕ × List Written) (text : List ℕ) : Type 0 where
  pub line : List ℕ
  pub body : List ℕ
  pub begins : IsFirst line body text
  pub opens : IsCondition line c.0
  pub steps : AreLines products c.1 body
  pub whole : AreTrees 1 c.1

-- the text is these certificates, one after the other
abbrev pub AreCertificates : Bool → Certificates → List ℕ → Type 0
AreCertificates products [] text = text ≡ []
AreCertificates products (c ∷ cs) text = (front : List ℕ) × (rest : List ℕ) × (text ≡ front ++ rest) × IsCertificate products c front × AreCertificates products cs rest

-- behind those that are done, each is for a condition that there is, and for another one
abbrev pub AreApart : ℕ → Certificates → Certificates → Type 0
AreApart conds done [] = Unit {0}
AreApart conds done (c ∷ cs) = (c.0 ≤ conds) × (is_listed done c.0 ≡ false) × AreApart conds (done ++ c ∷ []) cs

-- the text behind a header
pub record IsBody (products : Bool) (conds : ℕ) (certs : Certificates) (text : List ℕ) : Type 0 where
  pub body : List ℕ
  pub is : text ≡ body ++ codes "end\n"
  pub spelled : AreCertificates products certs body
  pub apart : AreApart conds [] certs

pub record IsHeaded (header : List ℕ) (products : Bool) (conds : ℕ) (certs : Certificates) (bytes : List ℕ) : Type 0 where
  pub rest : List ℕ
  pub is : bytes ≡ header ++ rest
  pub goes_on : IsBody products conds certs rest

-- the bytes are a file of these certificates, where there are so many conditions
abbrev pub IsFile : ℕ → List ℕ → Certificates → Type 0
IsFile conds bytes certs = IsHeaded (codes "wycert 1\n") false conds certs bytes ⊎ IsHeaded (codes "wycert 2\n") true conds certs bytes

-- the files are what is read
abbrev pub FilesAreRead : Type 0
FilesAreRead = (conds : ℕ) (bytes : List ℕ) (certs : Certificates) → IsFile conds bytes certs ↔ ReadsFile conds bytes (Ok certs)
