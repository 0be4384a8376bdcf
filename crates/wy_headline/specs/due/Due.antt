-- What it means that each program has its verdicts, and an answer that is due.
use Rattle.std.specs.Prelude.{ℕ, List}
use Rattle.wy_top.specs.wy_top_answers.Steps.{Came, due}
use Rattle.wy_top.specs.wy_cert.Steps.{Certificates}
use Rattle.wy_top.specs.Acceptance.{Acceptance, AreVerdicts, accepts}
use Rattle.wy_top.specs.wy_batch.Known.{Known}
use Rattle.wy_top.specs.Programs.{Program}

-- whatever certificates are supplied and whatever the budget, something is known of each condition of the program: the search of each one ends
abbrev pub EachIsKnown : Type 0
EachIsKnown = (certs : Certificates) (budget : ℕ) (p : Program) → (ks : List Known) × AreVerdicts certs budget p ks

-- so it is due that the program is accepted, or that it is refused
abbrev pub OneIsDue : Type 0
OneIsDue = (name cert bytes : List ℕ) (p : Program) (certs : Certificates) (budget : ℕ) → (r : Came Acceptance) × accepts name cert bytes p certs budget due r
