-- When is the program of a source accepted?
use Rattle.std.specs.Prelude.{◌≡◌, ◌⊎◌, ◌+◌, ℕ, List, [], ◌∷◌, Some, Ok, ⊤}
use Rattle.wy_port.specs.Count.{Rose}
use Rattle.wy_sound.specs.wy_vc_laws.shown.Certified.{AllHold}
use Rattle.wy_term.specs.Condition.{Condition}
use Rattle.wy_search_spec.specs.Tree.{IsVerdict, found as closes}
use Rattle.wy_top.specs.wy_batch.Known.{Known}
use Rattle.wy_top.specs.wy_cert.Steps.{Certificates, Written}
use Rattle.wy_top.specs.wy_check.Verdicts.{certificate_for}
use Rattle.wy_top.specs.wy_link_load.Alone.{IsAlone}
use Rattle.wy_top.specs.wy_top_answers.Answers.{refused}
use Rattle.wy_top.specs.wy_top_answers.Showing.{ShowsWhole, Sinks}
use Rattle.wy_top.specs.wy_top_answers.Steps.{IsTold, Setting, stated}
use Rattle.wy_top.specs.wy_top_answers.Texts.{load_failed as load_line}
use Rattle.wy_top.specs.wy_top_answers.supplied.Certificates.{IsFileTold, certificates}
use Rattle.wy_top.specs.wy_top_answers.wy_check_spec.valid.Validity.{IsValid}
use Rattle.wy_top.specs.Acceptance.{Acceptance, AreVerdicts, check_steps, checked_answer}
use Rattle.wy_top.specs.Owed.{Owes}
use Rattle.wy_top.specs.Programs.{conditions_of, count_of}
use Rattle.wy_top.specs.Refusals.{invalid_lines}
use Rattle.wy_top.specs.Statement.{IsAnswered}

-- ---- certificates

-- a valid certificate is supplied for the condition with this number, or its search closes all leaves within the budget
pub data IsCertified (certs : Certificates) (budget n : ℕ) (c : Condition) : Type 0 where
  supplied : (steps : List Written) → certificate_for certs n ≡ Some steps → IsValid c steps → IsCertified certs budget n c
  found : (leaves : ℕ) → IsVerdict c budget (closes leaves) → IsCertified certs budget n c

-- so it is with each condition of a list whose first one has this number
abbrev pub AreCertified : Certificates → ℕ → ℕ → List Condition → Type 0
AreCertified certs budget n [] = ⊤
AreCertified certs budget n (c ∷ cs) = IsCertified certs budget n c × AreCertified certs budget (n + 1) cs

-- ---- acceptance

-- The source with these bytes is accepted: it is a typed and assigned program within the limits, and each of its conditions has a valid certificate, supplied or found within the budget. The lines are those for certificates that are supplied and aren't valid.
pub record AcceptsBytes (s : Setting) (cert : List ℕ) (budget : ℕ) (bytes : List ℕ) (a : Acceptance) : Type 0 where
  pub owes : Owes bytes a.program.core a.program.flow
  pub certs : Certificates
  pub given : certificates s cert (count_of a.program) stated (Ok certs)
  pub certified : AreCertified certs budget 1 (conditions_of a.program)
  pub verdicts : List Known
  pub known : AreVerdicts certs budget a.program verdicts
  pub lines : a.lines ≡ invalid_lines cert verdicts

-- the source in this file is accepted, and it imports nothing
pub record AcceptsFile (s : Setting) (source cert : List ℕ) (budget : ℕ) (a : Acceptance) : Type 0 where
  pub bytes : List ℕ
  pub alone : IsAlone s source bytes
  pub accepts : AcceptsBytes s cert budget bytes a

-- the file with the source is told, and the one with the certificates, if one is named
pub record AreTold (s : Setting) (source cert : List ℕ) : Type 0 where
  pub source_is : IsTold s source
  pub cert_is : IsFileTold s cert

-- all conditions of an accepted program are true, whatever their names stand for
abbrev pub AcceptedIsTrue : Type 0
AcceptedIsTrue = (s : Setting) (cert : List ℕ) (budget : ℕ) (bytes : List ℕ) (a : Acceptance) → AcceptsBytes s cert budget bytes a → AllHold (conditions_of a.program)

-- ---- the outside

-- what may come in place of what is due: the load of a file failed and was counted, and its line is shown; or a sink failed and was counted; or memory ran out
pub data IsCutShort (s : Setting) (status : ℕ) (k : Sinks) : Type 0 where
  load_failed : (name : List ℕ) → Rose (s.faults_before name) (s.faults_after name) → ShowsWhole (refused 4 (load_line name)) status k → IsCutShort s status k
  sink_failed : status ≡ 5 → Rose k.out_faults_before k.out_faults_after ⊎ Rose k.err_faults_before k.err_faults_after → IsCutShort s status k
  no_memory : status ≡ 9 → IsCutShort s status k

-- ---- the command `check`

-- status 0 comes only where the program is accepted, with the line that says so; and where its files are told and it is accepted, that is what comes, unless it is cut short
pub record MeansCheck (s : Setting) (source cert : List ℕ) (budget status : ℕ) (k : Sinks) : Type 0 where
  pub accepted : status ≡ 0 → (a : Acceptance) × AcceptsFile s source cert budget a × ShowsWhole (checked_answer a) status k
  pub accepted_where : AreTold s source cert → (a : Acceptance) → AcceptsFile s source cert budget a → ShowsWhole (checked_answer a) status k ⊎ IsCutShort s status k

abbrev pub ChecksAreRight : Type 0
ChecksAreRight = (s : Setting) (source cert : List ℕ) (budget status : ℕ) (k : Sinks) → IsAnswered s (check_steps s source cert budget) status k → MeansCheck s source cert budget status k
