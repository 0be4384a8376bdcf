-- What more ticks change, and what a limit on turns changes.
use Rattle.std.specs.Prelude.{◌≡◌, ◌≢◌, ℕ, ◌+◌, ◌<◌, ◌≤◌, List, [], ◌++◌, Option, Some, None}
use Rattle.wy_term.specs.wy_value.Datum.{Datum}
use Rattle.wy_types.specs.wy_core.CoreTree.{Core}
use Rattle.wy_term.specs.declared.cond.CondKind.{CondKind}
use Rattle.wy_sem.specs.Meter.{Meter, Outcome, Done, Fault, More, Spent}
use Rattle.wy_sem.specs.Evaluation.{evaluate, limited_evaluate, contract_cost}
use Rattle.wy_sem.specs.Precondition.{precondition, cost}

-- the list begins with the other
abbrev pub Begins : List ℕ → List ℕ → Type 0
Begins first whole = (rest : List ℕ) × (whole ≡ first ++ rest)

-- the bytes that were printed
abbrev pub output_of : {X : Type 0} → Outcome X → List ℕ
output_of (Done x m) = m.output
output_of (Fault kind at m) = m.output
output_of (More m) = m.output
output_of Spent = []

-- the same with so many ticks more
abbrev pub richer : ℕ → Meter → Meter
richer i m = record m { ticks = m.ticks + i }

-- how an evaluation ends where its ticks are enough: with a result or with a fault, and with what was printed
pub data Ending : Type 0 where
  Returns : (value : Option Datum) (output : List ℕ) → Ending
  Faults : (kind : CondKind) (at : ℕ) (output : List ℕ) → Ending

abbrev pub ending : Outcome (Option Datum) → Option Ending
ending (Done v m) = Some (Returns v m.output)
ending (Fault kind at m) = Some (Faults kind at m.output)
ending (More m) = None
ending Spent = None

-- with more ticks an evaluation does the same, and what it spent it spends again; where ticks ran out it goes on, and what was printed stays
pub record Grows {N : Type 0} (place : N → ℕ) (core : Core N) (f : ℕ) (vs : List Datum) : Type 0 where
  pub stays : (k i : ℕ) (v : Option Datum) (m : Meter) → evaluate place core f vs k ≡ Done v m → evaluate place core f vs (k + i) ≡ Done v (richer i m)
  pub fault_stays : (k i : ℕ) (kind : CondKind) (at : ℕ) (m : Meter) → evaluate place core f vs k ≡ Fault kind at m → evaluate place core f vs (k + i) ≡ Fault kind at (richer i m)
  pub output_grows : (k i : ℕ) → Begins (output_of (evaluate place core f vs k)) (output_of (evaluate place core f vs (k + i)))

-- there is one ending, whatever the ticks
abbrev pub IsUnique : {N : Type 0} → (N → ℕ) → Core N → ℕ → List Datum → Type 0
IsUnique place core f vs = (k j : ℕ) (d e : Ending) → ending (evaluate place core f vs k) ≡ Some d → ending (evaluate place core f vs j) ≡ Some e → d ≡ e

-- the second is the first where so many turns are within the limit, and is spent where they pass it
pub record Settles {X : Type 0} (limit turns : ℕ) (whole limited : Outcome X) : Type 0 where
  pub within : turns ≤ limit → limited ≡ whole
  pub beyond : limit < turns → limited ≡ Spent

-- a limit on turns is spent exactly where the count of turns passes it, and otherwise changes nothing; where there is no limit, no turns are spent
pub record LimitIsExact {N : Type 0} (place : N → ℕ) (core : Core N) (f : ℕ) (vs : List Datum) (limit : ℕ) : Type 0 where
  pub evaluation : (k : ℕ) → Settles limit (contract_cost place core f vs k) (evaluate place core f vs k) (limited_evaluate place (Some limit) core f vs k)
  pub test : Settles limit (cost place core f vs) (precondition place None core f vs) (precondition place (Some limit) core f vs)
  pub evaluation_unspent : (k : ℕ) → evaluate place core f vs k ≢ Spent
  pub test_unspent : precondition place None core f vs ≢ Spent
