use Rattle.std.proofs.Common.{◌∙◌, [], get_or}
use Rattle.wy_flow_spec.specs.environment.Seen.{seen_changes, seen_environment}
use Rattle.wy_types.specs.Names.{types_of}
use Rattle.wy_flow_spec.specs.typing.Narrowing.{EitherAll}
use Rattle.wy_flow_exprs.proofs.checks_lemmas.StepLemmas.{refused_on}
use Rattle.wy_flow_exprs.proofs.LoopLemmas.{either_turn, either_refused, number_item, either_end}
use Rattle.wy_flow_exprs.proofs.narrowing.either_all.Goals as goal

pub loop-variable-preserved : goal.loop-variable-preserved
loop-variable-preserved c =
    record {
      over = c.in_ok-ty.ensures.over;
      flow = c.in_ok-ty.ensures.flow ∙ c.loop-variable.invariant.flow;
      left = either_turn (types_of c.args.program.now.names) c.args.at (seen_environment c.args.env.now) (seen_changes c.args.first.now) (seen_changes c.args.second.now) c.args.variables.now c.loop-variable.made c.push.new.self c.loop-variable.variable-index (get_or c.args.variables.now c.loop-variable.variable-index 0) c.in_ok-ty.ty c.loop-variable-test.true (number_item c.args.variables.now c.loop-variable.variable-index c.loop-variable-test.true) c.in_ok-ty.ensures.value c.in_ok-push.ensures.ok c.loop-variable.invariant.left;
    }

pub returns-in_err-ty-clause-value : goal.returns-in_err-ty-clause-value
returns-in_err-ty-clause-value c =
    refused_on (EitherAll (types_of c.args.program.now.names) c.args.at (seen_environment c.args.env.now) (seen_changes c.args.first.now) (seen_changes c.args.second.now) [] c.args.variables.now) seen_changes c.in_err-ty.field-0.0 c.from_residual.result
    (either_refused (types_of c.args.program.now.names) c.args.at (seen_environment c.args.env.now) (seen_changes c.args.first.now) (seen_changes c.args.second.now) c.args.variables.now c.loop-variable.made c.loop-variable.variable-index (get_or c.args.variables.now c.loop-variable.variable-index 0) c.in_err-ty.field-0.0 c.loop-variable-test.true (number_item c.args.variables.now c.loop-variable.variable-index c.loop-variable-test.true) c.in_err-ty.ensures.value c.loop-variable.invariant.left) c.from_residual.ensures.1

pub returns-clause-value : goal.returns-clause-value
returns-clause-value c =
    either_end (types_of c.args.program.now.names) c.args.at (seen_environment c.args.env.now) (seen_changes c.args.first.now) (seen_changes c.args.second.now) c.args.variables.now c.loop-variable.made c.loop-variable.variable-index c.loop-variable-test.false c.loop-variable.invariant.left
