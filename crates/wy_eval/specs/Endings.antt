-- How an evaluation ends, in the words of the semantics.
use Rattle.std.specs.Prelude.{◌≡◌, ◌<◌, ◌≤◌, ℕ, List, Option}
use Rattle.wy_value.specs.Datum.{Datum}
use Rattle.wy_sem.specs.Meter as sem
use Rattle.wy_sem.specs.Meter.{Outcome, Done, Fault, More, Spent, Run}
use Rattle.wy_eval_exprs.specs.Operands.{seen_option}
use Rattle.wy_eval.specs.declared.ending.EvalEnd.{EvalEnd}
use Rattle.wy_eval.specs.declared.ending.EvalEnd.TheVariants as end

-- the outcome is of this form, with whatever meter, and this was printed
abbrev pub EndsAs : Run (Option Datum) → List ℕ → Outcome (Option Datum) → Type 0
EndsAs form output o = (m : sem.Meter) × (o ≡ form m) × (output ≡ m.output)

-- the end is the outcome, with what was printed
abbrev pub SaysEnd : EvalEnd → Outcome (Option Datum) → Type 0
SaysEnd (end.Done v out) o = EndsAs (Done (seen_option v)) out.items o
SaysEnd (end.Fault kind at out) o = EndsAs (Fault kind at) out.items o
SaysEnd (end.More out) o = EndsAs More out.items o
SaysEnd end.TurnsSpent o = o ≡ Spent

-- the end is that of an evaluation whose turns have no limit, which spends so many in contracts, and the turns are enough; or what it spends passes them
abbrev pub IsExactEnd : EvalEnd → ℕ → ℕ → Outcome (Option Datum) → Type 0
IsExactEnd (end.Done v out) turns cost whole = (cost ≤ turns) × EndsAs (Done (seen_option v)) out.items whole
IsExactEnd (end.Fault kind at out) turns cost whole = (cost ≤ turns) × EndsAs (Fault kind at) out.items whole
IsExactEnd (end.More out) turns cost whole = (cost ≤ turns) × EndsAs More out.items whole
IsExactEnd end.TurnsSpent turns cost whole = turns < cost
