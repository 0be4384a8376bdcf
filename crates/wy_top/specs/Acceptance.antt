-- When is a program accepted? For each of its conditions a valid certificate was supplied, or its search closes all leaves within the budget.
use Rattle.std.specs.Prelude.{◌≡◌, ◌&&◌, ℕ, List, [], ◌∷◌, ◌++◌, Bool, true, false, Ok, Err}
use Rattle.wy_top_probe.specs.wy_top_answers.Answers.{refused, told}
use Rattle.wy_top_probe.specs.wy_link_load.Alone.{loads_alone}
use Rattle.wy_top_probe.specs.wy_top_answers.Steps.{Came, Sense, stated, due, Setting, and_then, done}
use Rattle.wy_top_probe.specs.wy_top_answers.declared.answer.Answer.{Answer}
use Rattle.wy_cert.specs.Steps.{Certificates}
use Rattle.wy_top.specs.Owed.{told_by}
use Rattle.wy_top.specs.Refusals.{invalid_lines, refusal_lines}
use Rattle.wy_top_probe.specs.wy_top_answers.report.Lines.{accepted}
use Rattle.wy_top_probe.specs.wy_top_answers.wy_vc_laws.shown.Certified.{AllHold}
use Rattle.wy_top_probe.specs.wy_top_answers.supplied.Certificates.{certificates}
use Rattle.wy_batch.specs.Known.{Known, AreKnown, is_closed}
use Rattle.wy_top.specs.Programs.{Program, conditions_of, count_of, owes}

abbrev pub are_closed : List Known → Bool
are_closed [] = true
are_closed (k ∷ ks) = is_closed k.end && are_closed ks

-- this is known of the conditions of the program, where these certificates are supplied
abbrev pub AreVerdicts : Certificates → ℕ → Program → List Known → Type 0
AreVerdicts certs budget p ks = AreKnown certs budget 1 (conditions_of p) ks

-- an accepted program, with the lines for certificates that were supplied and aren't valid
pub record Acceptance : Type 0 where
  pub program : Program
  pub lines : List ℕ

-- for each condition a valid certificate was supplied, or its search closes all leaves within the budget
pub record IsAccepted (cert : List ℕ) (p : Program) (certs : Certificates) (budget : ℕ) (a : Acceptance) : Type 0 where
  pub program : a.program ≡ p
  pub verdicts : List Known
  pub known : AreVerdicts certs budget p verdicts
  pub closed : are_closed verdicts ≡ true
  pub lines : a.lines ≡ invalid_lines cert verdicts

-- the lines of a refusal: those for certificates that aren't valid, those for conditions that are open or whose budget is spent, and the sum
abbrev pub unproved_lines : List ℕ → List ℕ → List ℕ → Program → ℕ → List Known → List ℕ
unproved_lines name cert bytes p budget ks = invalid_lines cert ks ++ refusal_lines name bytes budget (told_by p.core p.flow) ks

-- some condition is neither
pub record IsUnproved (name cert bytes : List ℕ) (p : Program) (certs : Certificates) (budget : ℕ) (a : Answer) : Type 0 where
  pub verdicts : List Known
  pub known : AreVerdicts certs budget p verdicts
  pub some : are_closed verdicts ≡ false
  pub answer : a ≡ refused 1 (unproved_lines name cert bytes p budget verdicts)

-- the program is accepted, and then all its conditions are true, whatever their names stand for; or it isn't
abbrev pub accepts : List ℕ → List ℕ → List ℕ → Program → Certificates → ℕ → Sense → Came Acceptance → Type 0
accepts name cert bytes p certs budget stated (Ok a) = IsAccepted cert p certs budget a × AllHold (conditions_of p)
accepts name cert bytes p certs budget stated (Err a) = IsUnproved name cert bytes p certs budget a
accepts name cert bytes p certs budget due (Ok a) = IsAccepted cert p certs budget a
accepts name cert bytes p certs budget due (Err a) = IsUnproved name cert bytes p certs budget a

-- ---- the order of steps

-- the program, with the certificates that are named
abbrev pub accepts_with : Setting → List ℕ → List ℕ → ℕ → List ℕ → Program → Sense → Came Acceptance → Type 0
accepts_with s name cert budget bytes p = and_then (certificates s cert (count_of p)) (λ certs. accepts name cert bytes p certs budget)

-- the source
abbrev pub accepts_source : Setting → List ℕ → List ℕ → ℕ → List ℕ → Sense → Came Acceptance → Type 0
accepts_source s name cert budget bytes = and_then (owes name bytes) (accepts_with s name cert budget bytes)

-- the file with the source, which imports nothing
abbrev pub accepts_file : Setting → List ℕ → List ℕ → ℕ → Sense → Came Acceptance → Type 0
accepts_file s name cert budget = and_then (loads_alone s name) (accepts_source s name cert budget)

-- how many conditions were accepted, and the lines for certificates that aren't valid
abbrev pub checked_answer : Acceptance → Answer
checked_answer a = told a.lines (accepted (count_of a.program))

-- the command `check`
abbrev pub check_steps : Setting → List ℕ → List ℕ → ℕ → Sense → Came Answer → Type 0
check_steps s name cert budget = and_then (accepts_file s name cert budget) (λ a. done (checked_answer a))
