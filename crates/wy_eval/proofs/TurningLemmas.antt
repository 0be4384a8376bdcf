-- What follows the body of a loop.
use Rattle.std.proofs.Common.{◌≡◌, ℕ, List, Some, refl}
use Rattle.wy_core.specs.CoreTree.{Alias, Core, Expr}
use Rattle.wy_term.specs.declared.cond.CondKind.TheVariants.{Keep}
use Rattle.wy_sem.specs.Expressions.{Store}
use Rattle.wy_sem.specs.Meter.{Meter, Run}
use Rattle.wy_sem.specs.Statements as spec
use Rattle.wy_sem.specs.Statements.{Went, Broke, Continued, Gave, go_round}
use Rattle.wy_sem.specs.TypeTests.{clause_setting}
use Rattle.wy_eval_exprs.specs.Settings.{here}
use Rattle.wy_eval.specs.Settings.{code, kept}
use Rattle.wy_eval.proofs.RunLemmas.{clauses_as}

-- the invariants of a loop in code are those of contracts
pub round_as : (core : Core ℕ) (types : List (Alias ℕ)) (limit calls at : ℕ) (es : List (Expr ℕ)) (next : Store → Run spec.Exit) (x : spec.Exit) (m : Meter)
    → go_round at (kept (code core types limit calls) es) next x m ≡ go_round at (kept (clause_setting here (Some limit) types) es) next x m
round_as core types limit calls at es next (Went s) m = clauses_as core types limit calls Keep at es s (next s) m
round_as core types limit calls at es next (Broke s) m = refl
round_as core types limit calls at es next (Continued from s) m = clauses_as core types limit calls Keep from es s (next s) m
round_as core types limit calls at es next (Gave v) m = refl
