use Rattle.std.proofs.Common.{rules}
use Rattle.wy_core.specs.CoreSeen.{seen_ty}
use Rattle.wy_flow_spec.specs.environment.Seen.{seen_environment}
use Rattle.wy_types.specs.Names.{types_of}
use Rattle.wy_flow_exprs.proofs.checks_lemmas.StepLemmas.{first_refused}
use Rattle.wy_flow.proofs.WalkLemmas.{normal_meets, normal_given}
use Rattle.wy_flow.proofs.values.give_normal.Goals as goal

pub returns-in_err-made-clause-value : goal.returns-in_err-made-clause-value
returns-in_err-made-clause-value c =
    let N = types_of c.args.program.now.names in
    normal_meets N c.args.at c.args.variable (seen_ty c.args.ty.now) (seen_environment c.args.env.now) _ _ (search rules) (first_refused _ _ _ _ _ c.in_err-made.ensures.value c.from_residual.ensures.1)

pub returns-clause-value : goal.returns-clause-value
returns-clause-value c =
    let N = types_of c.args.program.now.names in
    normal_given N c.args.at c.args.variable (seen_ty c.args.ty.now) (seen_ty c.in_ok-made.made) (seen_environment c.args.env.now) (seen_environment c.give.new.self) (search rules) c.in_ok-made.ensures.value c.in_ok-give.ensures.value
