use Rattle.std.proofs.Common.{◌≡◌, List, IfOk, subst}
use Rattle.wy_code.specs.declared.pieces.steps.Step.{Step}
use Rattle.wy_gen.proofs.RoutineLemmas.{call_same}
use Rattle.wy_gen.proofs.simple.call.Goals as goal

pub returns-clause-value : goal.returns-clause-value
returns-clause-value c =
    subst (λ (z : List Step). IfOk c.codes.result (λ m. m.steps ≡ z))
    (call_same c.args.context.now c.args.routine c.args.args.now c.args.free c.args.behind.live c.in_ok-behind.behind.live c.args.behind.steps c.in_ok-behind.behind.steps c.in_ok-behind.ensures.live c.in_ok-behind.ensures.value) c.codes.ensures.value
