-- What verdicts on the certificates of a file show.
use Rattle.std.specs.Prelude.{◌↔◌, ℕ, List, length, Ok}
use Rattle.wy_term.specs.Condition.{Condition}
use Rattle.wy_cert.specs.Steps.{Certificates}
use Rattle.wy_cert.specs.File.{ReadsFile}
use Rattle.wy_vc_laws.specs.shown.Certified.{AreFormed, AreCertified, AllHold}
use Rattle.wy_check.specs.Verdicts.{verdicts_on, AreSupplied}

-- each verdict is that a valid certificate was supplied exactly where a valid certificate for each condition stands in the file
abbrev pub SuppliedIsCertified : Type 0
SuppliedIsCertified = (conds : ℕ) (bytes : List ℕ) (certs : Certificates) (n : ℕ) (cs : List Condition) → ReadsFile conds bytes (Ok certs) → AreSupplied (verdicts_on certs n cs) ↔ AreCertified certs n cs

-- where it is so, each condition is true
abbrev pub SuppliedIsTrue : Type 0
SuppliedIsTrue = (conds : ℕ) (bytes : List ℕ) (certs : Certificates) (n : ℕ) (cs : List Condition) → ReadsFile conds bytes (Ok certs) → AreFormed cs → AreSupplied (verdicts_on certs n cs) → AllHold cs
