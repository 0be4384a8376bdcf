-- What is known of conditions for which certificates are given?
use Rattle.std.specs.Prelude.{◌≡◌, ℕ, ◌+◌, ◌==◌, List, [], ◌∷◌, Option, Some, None, if◌then◌else◌}
use Rattle.wy_term.specs.Condition.{Condition}
use Rattle.wy_cert.specs.Steps.{Written, Certificates}
use Rattle.wy_vc_laws.specs.wy_check_spec.valid.Validity.{first_bad}
use Rattle.wy_check.specs.declared.verdict.Verdict.{Verdict}
use Rattle.wy_check.specs.declared.verdict.Verdict.TheVariants.{Supplied, Missing, Bad}

-- the certificate for the condition with this number, if there is one; the first, if there are several
abbrev pub certificate_for : Certificates → ℕ → Option (List Written)
certificate_for [] n = None
certificate_for (c ∷ cs) n = if c.0 == n then Some c.1 else certificate_for cs n

-- the verdict where the first bad step of the certificate has this number, if there is one
abbrev pub verdict_from : Option ℕ → Verdict
verdict_from None = Supplied
verdict_from (Some step) = Bad step

-- the verdict on a condition for which these steps are given, if any
abbrev pub verdict_on : Condition → Option (List Written) → Verdict
verdict_on c None = Missing
verdict_on c (Some steps) = verdict_from (first_bad c steps)

-- the verdicts on the conditions of a list whose first one has this number
abbrev pub verdicts_on : Certificates → ℕ → List Condition → List Verdict
verdicts_on certs n [] = []
verdicts_on certs n (c ∷ cs) = verdict_on c (certificate_for certs n) ∷ verdicts_on certs (n + 1) cs

-- each has a valid certificate
abbrev pub AreSupplied : List Verdict → Type 0
AreSupplied [] = Unit {0}
AreSupplied (v ∷ vs) = (v ≡ Supplied) × AreSupplied vs
