use Rattle.std.proofs.Common.{sym}
use Rattle.wy_core.specs.CoreSeen.{seen_alias, seen_exprs}
use Rattle.wy_flow_spec.specs.environment.Seen.{seen_environment}
use Rattle.wy_flow_exprs.specs.Seen.{seen_flow, seen_program}
use Rattle.wy_types.specs.Names.{types_of}
use Rattle.wy_flow_spec.specs.typing.Loops as loops
use Rattle.wy_flow_spec.specs.typing.Programs as programs
use Rattle.wy_flow_exprs.proofs.checks_lemmas.StepLemmas.{next, first_refused}
use Rattle.wy_flow.proofs.WalkLemmas.{moved, shifted}
use Rattle.wy_flow.proofs.program.alias_typed.Goals as goal

pub returns-in_err-env-in-Some-clause-value : goal.returns-in_err-env-in-Some-clause-value
returns-in_err-env-in-Some-clause-value c =
    let N = types_of c.args.program.now.names in
    let P = seen_program c.args.program.now in
    let F = seen_flow c.args.walk.now in
    let Q = seen_alias c.args.alias.now in
    moved (λ v. programs.AliasTyped P Q F v) _ _ _ _ (sym c.in-Some.is) (first_refused _ _ _ _ _ (λ n. (shifted (λ e. programs.WithVariable N Q.ty_at Q.ty c.in-Some.variable e) _ _ _ c.new-nothing.ensures.value (c.in_err-env-in-Some.ensures.value n))) c.from_residual.ensures.1)

pub returns-in_ok-env-in-Some-clause-value : goal.returns-in_ok-env-in-Some-clause-value
returns-in_ok-env-in-Some-clause-value c =
    let N = types_of c.args.program.now.names in
    let P = seen_program c.args.program.now in
    let F = seen_flow c.args.walk.now in
    let Q = seen_alias c.args.alias.now in
    let Z = seen_environment c.in_ok-env-in-Some.env in
    moved (λ v. programs.AliasTyped P Q F v) _ _ _ _ (sym c.in-Some.is)
    (next _ _ _ Z _ (shifted (λ e. programs.WithVariable N Q.ty_at Q.ty c.in-Some.variable e) _ _ _ c.new-nothing.ensures.value c.in_ok-env-in-Some.ensures.value)
    (moved (λ f. loops.ClausesTyped P Z Q.clauses f) _ _ _ _ c.in_ok-env-in-Some.ensures.flow
    (moved (λ l. loops.ClausesTyped P Z (seen_exprs l) (seen_flow c.with_variable.new.walk)) _ _ _ _ c.as_slice.ensures c.clauses.ensures.value)))
