-- The test of a precondition has an answer.
use Rattle.std.specs.Prelude.{◌≡◌, ◌≤◌, ◌<◌, ℕ, List, Some, None}
use Rattle.wy_sem.specs.wy_value.Datum.{Datum}
use Rattle.wy_sem.specs.wy_core.CoreTree.{Core}
use Rattle.wy_sem.specs.wy_core.formed.Bound.{Bound}
use Rattle.wy_sem.specs.wy_core.formed.Calls.{Calls}
use Rattle.wy_sem.specs.wy_core.formed.Recursion.{Recursion}
use Rattle.wy_sem.specs.Meter.{Meter, Outcome, Done, Spent}
use Rattle.wy_sem.specs.Precondition.{Verdict, precondition, cost}

-- it is done, with a verdict
pub record IsAnswered (o : Outcome Verdict) : Type 0 where
  pub verdict : Verdict
  pub meter : Meter
  pub is : o ≡ Done verdict meter

-- with a limit on turns it has an answer where its cost is within the limit, and is spent where it passes it
pub record IsSettled (place : ℕ → ℕ) (core : Core ℕ) (f : ℕ) (args : List Datum) (limit : ℕ) : Type 0 where
  pub within : cost place core f args ≤ limit → IsAnswered (precondition place (Some limit) core f args)
  pub beyond : limit < cost place core f args → precondition place (Some limit) core f args ≡ Spent

-- in each core whose names lead where they should, whose contracts call nothing and whose types recur through records or arrays
abbrev pub PreconditionsAreAnswered : Type 0
PreconditionsAreAnswered = (place : ℕ → ℕ) (core : Core ℕ) → Bound core → Calls core → Recursion core → (f : ℕ) (args : List Datum) → IsAnswered (precondition place None core f args)

abbrev pub LimitedPreconditionsAreSettled : Type 0
LimitedPreconditionsAreSettled = (place : ℕ → ℕ) (core : Core ℕ) → Bound core → Calls core → Recursion core → (f : ℕ) (args : List Datum) (limit : ℕ) → IsSettled place core f args limit
