-- How calls of declared functions and methods begin.
use Rattle.std.specs.Prelude.{◌≡◌, ◌≢◌, ℕ, List, length, nat_eq, Option, Some, Result, Ok, Err}
use Rattle.wy_value.specs.Datum.{Datum}
use Rattle.wy_core.specs.CoreTree as tree
use Rattle.wy_core.specs.CoreTree.{Param}
use Rattle.wy_term.specs.declared.cond.CondKind.TheVariants.{Member, Requires}
use Rattle.wy_sem.specs.Evaluation.{arguments, entry_of, owed_member}
use Rattle.wy_sem.specs.Expressions.{clauses}
use Rattle.wy_sem.specs.Meter as sem
use Rattle.wy_sem.specs.Meter.{Run, check}
use Rattle.wy_sem.specs.TypeTests.{clause_setting}
use Rattle.wy_eval_exprs.specs.declared.stop.Stop.{Stop}
use Rattle.wy_eval_exprs.specs.declared.stop.Stop.TheVariants as stop
use Rattle.wy_eval_exprs.specs.Outcomes.{stopped}
use Rattle.wy_eval_exprs.specs.Settings.{here}

-- what a call does before its body
abbrev pub entering : ℕ → List (tree.Alias ℕ) → tree.Routine ℕ → ℕ → List Datum → Run (Option Datum) → Run (Option Datum)
entering limit types r at vs next =
    check (nat_eq (length vs) (length r.params)) Member at
    (arguments (owed_member here (Some limit) types) at r.params vs (clauses (clause_setting here (Some limit) types) Requires at r.preconditions (entry_of r vs) next))

-- whether the run goes on from this meter, whatever follows, or stops
abbrev pub GoesOn : {R : Type 0} → (Run (Option Datum) → Run (Option Datum)) → sem.Meter → Result R Stop → sem.Meter → Type 0
GoesOn run m (Ok r) k = (next : Run (Option Datum)) → run next m ≡ next k
GoesOn run m (Err e) k = e ≢ stop.NoMemory → (next : Run (Option Datum)) → run next m ≡ stopped e k
