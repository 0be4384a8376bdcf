-- What follows the body of a loop.
use Rattle.std.specs.Prelude.{◌≡◌, ◌≢◌, ℕ, List, Some, Result, Ok, Err}
use Rattle.wy_core.specs.CoreTree.{Alias, Expr}
use Rattle.wy_sem.specs.Expressions.{Store}
use Rattle.wy_sem.specs.Meter as sem
use Rattle.wy_sem.specs.Meter.{Done, Run}
use Rattle.wy_sem.specs.Statements as spec
use Rattle.wy_sem.specs.Statements.{go_round}
use Rattle.wy_sem.specs.TypeTests.{clause_setting}
use Rattle.wy_eval_exprs.specs.declared.stop.Stop.{Stop}
use Rattle.wy_eval_exprs.specs.declared.stop.Stop.TheVariants as stop
use Rattle.wy_eval_exprs.specs.Outcomes.{stopped}
use Rattle.wy_eval_exprs.specs.Scopes.{store_of}
use Rattle.wy_eval_exprs.specs.Settings.{here}
use Rattle.wy_eval.specs.Exits.{seen_exit}
use Rattle.wy_eval.specs.declared.turning.Turn.{Turn}
use Rattle.wy_eval.specs.declared.turning.Turn.TheVariants as turn
use Rattle.wy_eval.specs.Settings.{kept}

-- the loop goes on, or ends, or stops, whatever its next turn does
abbrev pub GoesRound : ℕ → List (Alias ℕ) → ℕ → List (Expr ℕ) → spec.Exit → sem.Meter → Result Turn Stop → sem.Meter → Type 0
GoesRound limit types at invariants x m (Ok (turn.Again s)) k = (next : Store → Run spec.Exit) → go_round at (kept (clause_setting here (Some limit) types) invariants) next x m ≡ next (store_of s.items) k
GoesRound limit types at invariants x m (Ok (turn.Left o)) k = (next : Store → Run spec.Exit) → go_round at (kept (clause_setting here (Some limit) types) invariants) next x m ≡ Done (seen_exit o) k
GoesRound limit types at invariants x m (Err e) k = e ≢ stop.NoMemory → (next : Store → Run spec.Exit) → go_round at (kept (clause_setting here (Some limit) types) invariants) next x m ≡ stopped e k
