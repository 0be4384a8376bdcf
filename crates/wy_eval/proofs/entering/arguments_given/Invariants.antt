use Rattle.std.proofs.Common.{◌≡◌, Some, map}
use Rattle.wy_core.specs.CoreSeen.{seen_alias}
use Rattle.wy_sem.specs.Evaluation.{owed_member}
use Rattle.wy_eval_exprs.specs.Outcomes.{meter_of}
use Rattle.wy_eval_exprs.specs.Settings.{here}
use Rattle.wy_eval.proofs.EntryLemmas.{ArgumentsLeft}
use Rattle.wy_eval.proofs.entering.arguments_given.Given as goal

abbrev pub invariant-loop-param : goal.invariant-loop-param
invariant-loop-param l = record {
  place : l.number ≡ l.param-index;
  left : ArgumentsLeft (owed_member here (Some l.program.declared.limit) (map seen_alias l.program.declared.types)) l.at l.params l.args (meter_of l.fn.meter) l.param-index (meter_of l.meter);
}
