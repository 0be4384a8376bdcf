-- What stopped behind the body of a loop is handed on.
use Rattle.std.proofs.Common.{◌≡◌, ◌≢◌, ℕ, List, Some, Result, Ok, Err, sym, ap, ◌∙◌}
use Rattle.std.specs.Prelude.{IsErrAnd}
use Rattle.wy_core.specs.CoreTree.{Alias, Expr}
use Rattle.wy_sem.specs.Expressions.{Store}
use Rattle.wy_sem.specs.Meter.{Meter, Run}
use Rattle.wy_sem.specs.Statements as spec
use Rattle.wy_sem.specs.Statements.{go_round}
use Rattle.wy_sem.specs.TypeTests.{clause_setting}
use Rattle.wy_eval_exprs.specs.declared.stop.Stop.{Stop}
use Rattle.wy_eval_exprs.specs.declared.stop.Stop.TheVariants as stop
use Rattle.wy_eval_exprs.specs.Outcomes.{stopped}
use Rattle.wy_eval_exprs.specs.Settings.{here}
use Rattle.wy_eval.specs.declared.turning.Turn.{Turn}
use Rattle.wy_eval.specs.Settings.{kept}
use Rattle.wy_eval.specs.Turns.{GoesRound}

pub round_refused : (limit : ℕ) (types : List (Alias ℕ)) (at : ℕ) (es : List (Expr ℕ)) (x : spec.Exit) (m k : Meter) (e : Stop) (r : Result Turn Stop)
    → (e ≢ stop.NoMemory → (next : Store → Run spec.Exit) → go_round at (kept (clause_setting here (Some limit) types) es) next x m ≡ stopped e k) → IsErrAnd r (λ f. f ≡ e) → GoesRound limit types at es x m r k
round_refused limit types at es x m k e (Ok y) h handed = absurd handed
round_refused limit types at es x m k e (Err f) h handed = λ none next. h (λ q. none (handed ∙ q)) next ∙ sym (ap (λ g. stopped g k) handed)
