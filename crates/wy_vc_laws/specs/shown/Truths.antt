-- What certificates show of the conditions of a program.
use Rattle.std.specs.Prelude.{ℕ, List, length, Ok}
use Rattle.wy_sound_terms.specs.wy_core.Types.{Ty}
use Rattle.wy_sound_terms.specs.wy_core.CoreTree.{Core}
use Rattle.wy_check_laws.specs.wy_cert.Steps.{Certificates}
use Rattle.wy_check_laws.specs.wy_cert.File.{ReadsFile}
use Rattle.wy_vc_laws.specs.shown.Certified.{AreFormed, AreCertified, AllHold}
use Rattle.wy_sound_terms.specs.formed.OwedConditions.{owed_conditions}

-- the conditions of every program, whatever its flow types, meet what the laws on certificates ask of conditions
abbrev pub OwedConditionsMeetPremises : Type 0
OwedConditionsMeetPremises = (core : Core ℕ) (flow : List Ty) → AreFormed (owed_conditions core flow)

-- whatever bytes a file has: where it has a valid certificate for each condition of a program, all of them are true
abbrev pub CertifiedProgramsOweTruths : Type 0
CertifiedProgramsOweTruths = (core : Core ℕ) (flow : List Ty) (bytes : List ℕ) (certs : Certificates) → ReadsFile (length (owed_conditions core flow)) bytes (Ok certs) → AreCertified certs 1 (owed_conditions core flow) → AllHold (owed_conditions core flow)
