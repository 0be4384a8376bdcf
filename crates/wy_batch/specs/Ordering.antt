-- Verdicts at their places.
use Rattle.std.specs.Prelude.{◌≡◌, ℕ, List, Option, None, Some, slice_get}
use Rattle.wy_batch.specs.Judged.{IsVerdictAt}
use Rattle.wy_batch.specs.declared.verdict.Verdict.{Verdict}
use Rattle.wy_cert.specs.Steps.{Certificates}
use Rattle.wy_term.specs.Condition.{Condition}

-- each place has a verdict
abbrev pub IsFull : List (Option Verdict) → Type 0
IsFull slots = (place : ℕ) → slice_get slots place ≡ Some None → ⊥

-- each verdict is that on the condition at its place
abbrev pub ArePlaced : Certificates → ℕ → List Condition → List (Option Verdict) → Type 0
ArePlaced certs budget cs slots = (place : ℕ) (v : Verdict) → slice_get slots place ≡ Some (Some v) → IsVerdictAt certs budget cs place v
