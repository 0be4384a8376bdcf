-- What verdicts show.
use Rattle.std.specs.Prelude.{◌≡◌, ℕ, List, true, Ok}
use Rattle.wy_term.specs.Condition.{Condition}
use Rattle.wy_cert.specs.Steps.{Certificates}
use Rattle.wy_cert.specs.File.{ReadsFile}
use Rattle.wy_top_probe.specs.wy_top_answers.wy_vc_laws.shown.Certified.{AreFormed, AllHold}
use Rattle.wy_top_probe.specs.wy_top_answers.wy_vc_laws.shown.ReadSorted.{AreSortedCertificates}
use Rattle.wy_top.specs.Acceptance.{are_closed}
use Rattle.wy_batch.specs.Known.{AreKnown, Known}

-- where for each condition a valid certificate was supplied, or its search closed all leaves, all of them are true, whatever their names stand for; of the certificates that were supplied it is asked that their terms are of the sorts of their places
abbrev pub ClosedIsTrue : Type 0
ClosedIsTrue = (certs : Certificates) (budget n : ℕ) (cs : List Condition) (ks : List Known) → AreSortedCertificates certs → AreFormed cs → AreKnown certs budget n cs ks → are_closed ks ≡ true → AllHold cs

-- nothing is asked of certificates that were read from a file
abbrev pub ReadIsTrue : Type 0
ReadIsTrue = (conds : ℕ) (bytes : List ℕ) (certs : Certificates) (budget n : ℕ) (cs : List Condition) (ks : List Known) → ReadsFile conds bytes (Ok certs) → AreFormed cs → AreKnown certs budget n cs ks → are_closed ks ≡ true → AllHold cs
