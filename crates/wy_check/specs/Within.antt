-- Which conditions are written in a list of so many terms, and which verdicts are all missing.
use Rattle.std.specs.Prelude.{◌≡◌, ℕ, ◌<◌, List, All}
use Rattle.wy_term.specs.declared.cond.Cond.{Cond}
use Rattle.wy_facts.specs.Membership.{AreTypesBelow}
use Rattle.wy_check.specs.declared.verdict.Verdict.{Verdict}
use Rattle.wy_check.specs.declared.verdict.Verdict.TheVariants.{Missing}

-- each number of the condition names one of the first n terms
pub record IsWithin (n : ℕ) (cond : Cond) : Type 0 where
  pub hyps : All (λ h. h < n) cond.hyps.items
  pub goal : cond.goal < n
  pub types : AreTypesBelow n cond

-- no certificate was given for any
abbrev pub AllMissing : List Verdict → Type 0
AllMissing vs = All (λ v. v ≡ Missing) vs
