use Rattle.std.proofs.Common.{◌+◌, ◌-◌, ◌*◌, drop, map, suc, true}
use borrow.Author.Gap.{gap}
use Rattle.wy_core.specs.CoreSeen.{seen_alias, seen_block, seen_core, seen_expr, seen_exprs}
use Rattle.wy_value.specs.Seen.{seen}
use Rattle.wy_sem.specs.Statements.{exec_all}
use Rattle.wy_eval_exprs.specs.Outcomes.{meter_of}
use Rattle.wy_eval_exprs.specs.Scopes.{scope, store_of}
use Rattle.wy_eval_exprs.specs.Settings.{turns_of}
use Rattle.wy_eval_exprs.proofs.TurnLemmas.{ValuesLeft, FieldsLeft, TurnsLeft}
use Rattle.wy_eval.specs.Exits.{frame}
use Rattle.wy_eval.specs.Settings.{code}
use Rattle.wy_eval.proofs.PathLemmas.{PathLeft}
use Rattle.wy_eval.proofs.RoundLemmas.{RoundsLeft}
use Rattle.wy_eval.proofs.StatementLemmas.{BlockLeft}
use Rattle.wy_eval.proofs.+code.Given as goal

abbrev pub invariant-expressions::values_of-loop-expr : goal.invariant-expressions::values_of-loop-expr
invariant-expressions::values_of-loop-expr l = ValuesLeft (code (seen_core l.core) (map seen_alias l.program.declared.types) l.program.declared.limit l.calls) true (scope (store_of l.store) l.over) l.exprs (meter_of l.fn.meter) l.made (meter_of l.meter) (drop l.expr-index l.exprs)

abbrev pub invariant-expressions::fields_of-loop-field : goal.invariant-expressions::fields_of-loop-field
invariant-expressions::fields_of-loop-field l = FieldsLeft (code (seen_core l.core) (map seen_alias l.program.declared.types) l.program.declared.limit l.calls) true (scope (store_of l.store) l.over) l.fields (meter_of l.fn.meter) l.made (meter_of l.meter) (drop l.field-index l.fields)

abbrev pub invariant-expressions::turns-loop-number : goal.invariant-expressions::turns-loop-number
invariant-expressions::turns-loop-number l = TurnsLeft l.all l.at (turns_of (code (seen_core l.core) (map seen_alias l.program.declared.types) l.program.declared.limit l.calls) true (seen_expr l.body) (scope (store_of l.store) l.over) l.variable) l.from l.to (meter_of l.fn.meter) l.number (meter_of l.meter)

abbrev pub decreases-expressions::turns-loop-number : goal.decreases-expressions::turns-loop-number
decreases-expressions::turns-loop-number l = gap l.number l.to

abbrev pub invariant-statements::exec_all-loop-stmt : goal.invariant-statements::exec_all-loop-stmt
invariant-statements::exec_all-loop-stmt l = BlockLeft (code (seen_core l.core) (map seen_alias l.program.declared.types) l.program.declared.limit l.calls) (frame l.program.declared.limit (map seen_alias l.program.declared.types) l.routine l.types (store_of l.entry)) l.stmts (store_of l.fn.store.items) (meter_of l.fn.meter) (store_of l.store.items) (meter_of l.meter) (drop l.stmt-index l.stmts)

abbrev pub invariant-statements::rounds-loop-round : goal.invariant-statements::rounds-loop-round
invariant-statements::rounds-loop-round l = RoundsLeft (code (seen_core l.core) (map seen_alias l.program.declared.types) l.program.declared.limit l.calls) (frame l.program.declared.limit (map seen_alias l.program.declared.types) l.routine l.types (store_of l.entry)) l.at (seen_expr l.test) (exec_all (code (seen_core l.core) (map seen_alias l.program.declared.types) l.program.declared.limit l.calls) (frame l.program.declared.limit (map seen_alias l.program.declared.types) l.routine l.types (store_of l.entry)) (seen_block l.body)) (seen_exprs l.invariants) (suc l.fn.meter.ticks) (store_of l.fn.store.items) (meter_of l.fn.meter) (suc l.fn.meter.ticks - l.round) (store_of l.store.items) (meter_of l.meter)

abbrev pub invariant-assignments::path_of-loop-step : goal.invariant-assignments::path_of-loop-step
invariant-assignments::path_of-loop-step l = PathLeft (code (seen_core l.core) (map seen_alias l.program.declared.types) l.program.declared.limit l.calls) (store_of l.store) l.path (seen l.whole) (meter_of l.fn.meter) l.slots (seen l.part) (meter_of l.meter) (drop l.step-index l.path)

abbrev pub decreases-expressions::value_of : goal.decreases-expressions::value_of
decreases-expressions::value_of a = a.room * 4 + 0

abbrev pub decreases-statements::exec : goal.decreases-statements::exec
decreases-statements::exec a = a.room * 4 + 0

abbrev pub decreases-expressions::values_of : goal.decreases-expressions::values_of
decreases-expressions::values_of a = a.room * 4 + 1

abbrev pub decreases-expressions::fields_of : goal.decreases-expressions::fields_of
decreases-expressions::fields_of a = a.room * 4 + 1

abbrev pub decreases-expressions::quantified : goal.decreases-expressions::quantified
decreases-expressions::quantified a = a.room * 4 + 2

abbrev pub decreases-expressions::turns : goal.decreases-expressions::turns
decreases-expressions::turns a = a.room * 4 + 1

abbrev pub decreases-expressions::operated : goal.decreases-expressions::operated
decreases-expressions::operated a = a.room * 4 + 1

abbrev pub decreases-statements::exec_all : goal.decreases-statements::exec_all
decreases-statements::exec_all a = a.room * 4 + 1

abbrev pub decreases-statements::rounds : goal.decreases-statements::rounds
decreases-statements::rounds a = a.room * 4 + 2

abbrev pub decreases-assignments::assigned : goal.decreases-assignments::assigned
decreases-assignments::assigned a = a.room * 4 + 3

abbrev pub decreases-assignments::path_of : goal.decreases-assignments::path_of
decreases-assignments::path_of a = a.room * 4 + 2

abbrev pub decreases-assignments::stepped : goal.decreases-assignments::stepped
decreases-assignments::stepped a = a.room * 4 + 1

abbrev pub decreases-calls::run : goal.decreases-calls::run
decreases-calls::run a = a.room * 4 + 2
