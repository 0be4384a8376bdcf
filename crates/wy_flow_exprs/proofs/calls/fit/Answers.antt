use Rattle.std.proofs.Common.{arith}
use Rattle.wy_core.specs.CoreSeen.{seen_ty}
use Rattle.wy_types.specs.Names.{types_of}
use Rattle.wy_flow_spec.specs.typing.Calls.{Fit}
use Rattle.wy_flow_spec.specs.typing.Outcomes.{Gives, Fails}
use Rattle.wy_flow_exprs.proofs.checks_lemmas.StepLemmas.{refused_on}
use Rattle.wy_flow_exprs.specs.Seen.{seen_types}
use Rattle.wy_flow_exprs.proofs.FoundLemmas.{within_at}
use Rattle.wy_flow_exprs.proofs.LoopLemmas.{fit_turn, fit_refused, fit_short, fit_end}
use Rattle.wy_flow_exprs.proofs.calls.fit.Goals as goal

pub returns-in-None-clause-value : goal.returns-in-None-clause-value
returns-in-None-clause-value c =
    fit_short (types_of c.args.names.now) c.args.at c.args.args.now c.args.params.now c.loop-arg.arg-index c.loop-arg.place c.arg-item.result c.loop-arg-test.true c.arg-item.is c.in-None.ensures c.loop-arg.invariant.counted c.loop-arg.invariant.left

pub returns-in_err-is_within-in-Some-clause-value : goal.returns-in_err-is_within-in-Some-clause-value
returns-in_err-is_within-in-Some-clause-value c =
    refused_on (Fit (types_of c.args.names.now) c.args.at (seen_types c.args.args.now) (seen_types c.args.params.now)) (λ (u : Unit {0}). u) c.in_err-is_within-in-Some.field-0.0 c.from_residual.result
    (fit_refused (types_of c.args.names.now) c.args.at c.args.args.now c.args.params.now c.loop-arg.arg-index c.loop-arg.place c.arg-item.result c.in-Some.param.now c.loop-arg-test.true c.arg-item.is c.in-Some.ensures c.loop-arg.invariant.counted c.in_err-is_within-in-Some.field-0.0 (λ n. within_at (types_of c.args.names.now) c.args.at c.arg-item.result c.get.result.now (seen_ty c.in-Some.param.now) (Fails c.in_err-is_within-in-Some.field-0.0) c.get.ensures.value (c.in_err-is_within-in-Some.ensures.value n)) c.loop-arg.invariant.left) c.from_residual.ensures.1

pub loop-arg-preserved : goal.loop-arg-preserved
loop-arg-preserved c =
    record {
      over = c.in_ok-is_within-in-Some.ensures.over;
      counted = omega (arith, c.loop-arg.invariant.counted);
      left = fit_turn (types_of c.args.names.now) c.args.at c.args.args.now c.args.params.now c.loop-arg.arg-index c.loop-arg.place c.arg-item.result c.in-Some.param.now c.loop-arg-test.true c.arg-item.is c.in-Some.ensures c.loop-arg.invariant.counted (within_at (types_of c.args.names.now) c.args.at c.arg-item.result c.get.result.now (seen_ty c.in-Some.param.now) (Gives tt) c.get.ensures.value c.in_ok-is_within-in-Some.ensures.value) c.loop-arg.invariant.left;
    }

pub returns-clause-value : goal.returns-clause-value
returns-clause-value c =
    fit_end (types_of c.args.names.now) c.args.at c.args.args.now c.args.params.now c.loop-arg.arg-index c.loop-arg-test.false c.loop-arg.invariant.left
