use Rattle.std.proofs.Common.{◌≡◌, map}
use Rattle.wy_core.specs.CoreSeen.{seen_alias}
use Rattle.wy_eval_exprs.specs.Outcomes.{meter_of}
use Rattle.wy_eval_exprs.proofs.TestLemmas.{TypesLeft}
use Rattle.wy_eval_exprs.proofs.arguments.first_not_member.Given as goal

abbrev pub invariant-loop-param : goal.invariant-loop-param
invariant-loop-param l = record {
  place : l.number ≡ l.param-index;
  left : TypesLeft l.declared.limit (map seen_alias l.declared.types) l.params l.args (meter_of l.fn.meter) l.param-index (meter_of l.meter);
}
