-- A condition with a valid certificate of a file is true.
use Rattle.std.proofs.Common.{ℕ, ◌+◌, List, [], ◌∷◌, length, map, inl, inr, ap, subst}
use Rattle.wy_check_laws.specs.wy_term.Condition.{Condition, condition_of, HoldsAlways}
use Rattle.wy_check_laws.specs.wy_cert.declared.step.Cert.{Cert}
use Rattle.wy_check_laws.specs.wy_cert.Steps.{Written, Certificates, steps_of, certificates_of}
use Rattle.wy_check_laws.specs.sound.Sortedness.{AreSortedSteps}
use Rattle.wy_check_laws.proofs.sound_lemmas.SoundLemmas.{valid_implies_true}
use Rattle.wy_vc_laws.specs.shown.ReadSorted.{AreSortedCertificates}
use Rattle.wy_vc_laws.proofs.shown_lemmas.ReadLemmas.{reads_sorted}
use Rattle.wy_vc_laws.specs.shown.Certified.{Has, IsFormed, AreFormed, IsCertified, AreCertified, AllHold, ReadCertificateShows, CertifiedConditionsHold, KeptCertificateShows}

-- the steps of a certificate that stands in the list are sorted where those of all are
sorted_there : (certs : Certificates) (n : ℕ) (steps : List Written) → AreSortedCertificates certs → Has certs n steps → AreSortedSteps steps
sorted_there [] n steps sorted h = absurd h
sorted_there (c ∷ cs) n steps sorted (inl h) = subst AreSortedSteps h.1 sorted.0
sorted_there (c ∷ cs) n steps sorted (inr h) = sorted_there cs n steps sorted.1 h

shows : (certs : Certificates) (n : ℕ) (c : Condition) → AreSortedCertificates certs → IsFormed c → IsCertified certs n c → HoldsAlways c
shows certs n c sorted formed h = valid_implies_true c h.steps formed.sorted formed.are_closed (sorted_there certs n h.steps sorted h.stands) h.valid

pub read_certificate_shows : ReadCertificateShows
read_certificate_shows conds bytes certs n c reads formed h = shows certs n c (reads_sorted conds bytes certs reads) formed h

all_hold : (certs : Certificates) (n : ℕ) (cs : List Condition) → AreSortedCertificates certs → AreFormed cs → AreCertified certs n cs → AllHold cs
all_hold certs n [] sorted formed h = tt
all_hold certs n (c ∷ cs) sorted formed h = (shows certs n c sorted formed.0 h.0, all_hold certs (n + 1) cs sorted formed.1 h.1)

pub certified_conditions_hold : CertifiedConditionsHold
certified_conditions_hold bytes certs cs reads formed h = all_hold certs 1 cs (reads_sorted (length cs) bytes certs reads) formed h

-- ---- certificates as the code keeps them

stands_as_steps : (kept : List (ℕ × Cert)) (n : ℕ) (cert : Cert) → Has kept n cert → Has (map (λ (e : ℕ × Cert). (e.0, steps_of e.1)) kept) n (steps_of cert)
stands_as_steps [] n cert h = absurd h
stands_as_steps (e ∷ es) n cert (inl h) = inl (h.0, ap steps_of h.1)
stands_as_steps (e ∷ es) n cert (inr h) = inr (stands_as_steps es n cert h)

pub kept_certificate_shows : KeptCertificateShows
kept_certificate_shows conds bytes certs n cert nodes cond reads stands formed valid =
    read_certificate_shows conds bytes (certificates_of certs) n (condition_of nodes cond) reads formed
    (record { steps = steps_of cert; stands = stands_as_steps certs.list.items n cert stands; valid = valid })
