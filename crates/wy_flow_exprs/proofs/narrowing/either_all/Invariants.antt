use Rattle.std.proofs.Common.{◌≡◌, drop}
use Rattle.wy_flow_spec.specs.environment.Seen.{seen_changes, seen_environment}
use Rattle.wy_flow_exprs.specs.Seen.{seen_flow}
use Rattle.wy_types.specs.Names.{types_of}
use Rattle.wy_types.specs.Questions.{IsOver}
use Rattle.wy_flow_exprs.proofs.LoopLemmas.{EitherLeft}
use Rattle.wy_flow_exprs.proofs.narrowing.either_all.Given as goal

abbrev pub invariant-loop-variable : goal.invariant-loop-variable
invariant-loop-variable l = record {
  over : IsOver (types_of l.program.names) l.walk.question;
  flow : seen_flow l.walk ≡ seen_flow l.fn.walk;
  left : EitherLeft (types_of l.program.names) l.at (seen_environment l.env) (seen_changes l.first) (seen_changes l.second) l.variables l.made (drop l.variable-index l.variables);
}
