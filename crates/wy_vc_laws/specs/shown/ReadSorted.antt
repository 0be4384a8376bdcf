-- The terms of a certificate that was read are of the sorts that their places want.
use Rattle.std.specs.Prelude.{ℕ, List, [], ◌∷◌, Ok}
use Rattle.wy_check_laws.specs.wy_cert.Steps.{Certificates}
use Rattle.wy_check_laws.specs.wy_cert.File.{ReadsFile}
use Rattle.wy_check_laws.specs.sound.Sortedness.{AreSortedSteps}

abbrev pub AreSortedCertificates : Certificates → Type 0
AreSortedCertificates [] = Unit {0}
AreSortedCertificates (c ∷ cs) = AreSortedSteps c.1 × AreSortedCertificates cs

-- whatever bytes a file has and however many conditions there are
abbrev pub ReadsSorted : Type 0
ReadsSorted = (conds : ℕ) (bytes : List ℕ) (certs : Certificates) → ReadsFile conds bytes (Ok certs) → AreSortedCertificates certs
