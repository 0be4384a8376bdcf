-- What a test of a precondition finds, in the words of the semantics.
use Rattle.std.specs.Prelude.{◌≡◌, ◌≢◌, ◌<◌, ◌≤◌, ℕ, Bool, true, false, List, Option, Some, None, Result, Ok, Err}
use Rattle.wy_value.specs.Datum.{Datum}
use Rattle.wy_core.specs.CoreTree.{Alias, Param}
use Rattle.wy_sem.specs.Meter as sem
use Rattle.wy_sem.specs.Meter.{Outcome, Done, Spent, Run}
use Rattle.wy_sem.specs.Precondition as spec
use Rattle.wy_sem.specs.Precondition.{Verdict}
use Rattle.wy_sem.specs.Evaluation.{Callee}
use Rattle.wy_eval_exprs.specs.declared.stop.Stop.{Stop}
use Rattle.wy_eval_exprs.specs.declared.stop.Stop.TheVariants as stop
use Rattle.wy_eval_exprs.specs.Outcomes.{stopped}
use Rattle.wy_eval_exprs.specs.declared.precondition.MeetsEnd.{MeetsEnd}
use Rattle.wy_eval_exprs.specs.declared.precondition.MeetsEnd.TheVariants as end
use Rattle.wy_eval_exprs.specs.Settings.{here}

-- the outcome is this verdict, with whatever meter
abbrev pub Finds : Verdict → Outcome Verdict → Type 0
Finds v o = (m : sem.Meter) × (o ≡ Done v m)

-- the end is what the test of a precondition comes to
abbrev pub Says : MeetsEnd → Outcome Verdict → Type 0
Says end.Met o = Finds spec.Met o
Says end.CountFails o = Finds spec.CountFails o
Says (end.TypeFails k) o = Finds (spec.TypeFails k) o
Says (end.RequiresFails k) o = Finds (spec.RequiresFails k) o
Says end.TurnsSpent o = o ≡ Spent

-- the end is that of a test whose turns have no limit, which costs so much, and the turns are enough; or the cost passes them. It says Met where the arguments meet the declaration, and nothing else there
abbrev pub IsExact : MeetsEnd → ℕ → ℕ → Outcome Verdict → Type 0 → Type 0
IsExact end.Met turns cost whole Meets = (cost ≤ turns) × Finds spec.Met whole × Meets
IsExact end.CountFails turns cost whole Meets = (cost ≤ turns) × Finds spec.CountFails whole × (Meets → ⊥)
IsExact (end.TypeFails k) turns cost whole Meets = (cost ≤ turns) × Finds (spec.TypeFails k) whole × (Meets → ⊥)
IsExact (end.RequiresFails k) turns cost whole Meets = (cost ≤ turns) × Finds (spec.RequiresFails k) whole × (Meets → ⊥)
IsExact end.TurnsSpent turns cost whole Meets = turns < cost

-- the first of the requires clauses from a number on that isn't true
abbrev pub requires_verdict : Option ℕ → Verdict
requires_verdict None = spec.Met
requires_verdict (Some k) = spec.RequiresFails k

-- the number of the first argument that isn't of its type; behind the arguments comes what follows
abbrev pub FirstOf : ℕ → List (Alias ℕ) → List Param → List Datum → sem.Meter → Result (Option ℕ) Stop → sem.Meter → Type 0
FirstOf limit types ps vs m (Ok None) k = (next : Run Verdict) → spec.types_met here (Some limit) types ps vs 1 next m ≡ next k
FirstOf limit types ps vs m (Ok (Some n)) k = (next : Run Verdict) → spec.types_met here (Some limit) types ps vs 1 next m ≡ Done (spec.TypeFails n) k
FirstOf limit types ps vs m (Err e) k = e ≢ stop.NoMemory → (next : Run Verdict) → spec.types_met here (Some limit) types ps vs 1 next m ≡ stopped e k

-- the number is that of no declared function or method: whatever the arguments, their number is wrong
abbrev pub NoRoutine : Callee ℕ → Type 0
NoRoutine c = (limit : ℕ) (types : List (Alias ℕ)) (vs : List Datum) (m : sem.Meter) → spec.callee_met here (Some limit) types c vs m ≡ Done spec.CountFails m

-- the verdict that an end stands for; an end by the turns is none, and has to have one
abbrev pub verdict_of : MeetsEnd → Verdict
verdict_of end.Met = spec.Met
verdict_of end.CountFails = spec.CountFails
verdict_of (end.TypeFails k) = spec.TypeFails k
verdict_of (end.RequiresFails k) = spec.RequiresFails k
verdict_of end.TurnsSpent = spec.Met

abbrev pub is_verdict : MeetsEnd → Bool
is_verdict end.Met = true
is_verdict end.CountFails = true
is_verdict (end.TypeFails k) = true
is_verdict (end.RequiresFails k) = true
is_verdict end.TurnsSpent = false
