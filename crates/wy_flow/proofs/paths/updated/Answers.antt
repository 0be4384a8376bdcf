use Rattle.std.proofs.Common.{◌≡◌, ◌<◌, ◌+◌, ◌-◌, length, map, ◌∙◌, subst, arith}
use Rattle.wy_core.specs.CoreSeen.{seen_step, seen_ty}
use Rattle.wy_flow_exprs.specs.Seen.{seen_types}
use Rattle.wy_types.specs.Names.{types_of}
use Rattle.wy_flow_spec.specs.typing.Outcomes.{Gives}
use Rattle.wy_flow_spec.specs.typing.Paths as paths
use Rattle.wy_flow_exprs.proofs.checks_lemmas.StepLemmas.{refused_on}
use Rattle.wy_flow.proofs.PathLemmas as along
use Rattle.wy_flow.proofs.paths.updated.Goals as goal

pub returns-in_err-next-clause-value : goal.returns-in_err-next-clause-value
returns-in_err-next-clause-value c =
    let N = types_of c.args.program.now.names in
    let NW = seen_ty c.args.new.now in
    let LESS : (c.loop-left.left - 1) < length c.args.path.now = omega (arith, c.loop-left.invariant.within, c.loop-left-test.true) in
    let SAME : c.loop-left.left ≡ (c.loop-left.left - 1) + 1 = omega (arith, c.loop-left-test.true) in
    let SOFAR = subst (λ n. along.From N c.args.at c.args.path.now c.args.types.now n NW (Gives (seen_ty c.loop-left.inner))) SAME c.loop-left.invariant.so_far in
    refused_on (paths.Updated N c.args.at (map seen_step c.args.path.now) (seen_types c.args.types.now) NW) _ _ _
    (λ n. along.fails_all N c.args.at c.args.path.now c.args.types.now (c.loop-left.left - 1) c.index-path-left.result c.index-types-left.result NW _ (omega (arith, LESS)) c.requires.along
    (along.from_turn N c.args.at c.args.path.now c.args.types.now (c.loop-left.left - 1) c.index-path-left.result c.index-types-left.result c.index-types-left-in-loop-left.result NW (seen_ty c.loop-left.inner) _ LESS c.requires.along c.index-path-left.is c.index-types-left.is c.index-types-left-in-loop-left.is SOFAR (c.in_err-next.ensures.value n)))
    c.from_residual-in_err-next.ensures.1

pub loop-left-preserved : goal.loop-left-preserved
loop-left-preserved c =
    let N = types_of c.args.program.now.names in
    let NW = seen_ty c.args.new.now in
    let LESS : (c.loop-left.left - 1) < length c.args.path.now = omega (arith, c.loop-left.invariant.within, c.loop-left-test.true) in
    let SAME : c.loop-left.left ≡ (c.loop-left.left - 1) + 1 = omega (arith, c.loop-left-test.true) in
    let SOFAR = subst (λ n. along.From N c.args.at c.args.path.now c.args.types.now n NW (Gives (seen_ty c.loop-left.inner))) SAME c.loop-left.invariant.so_far in
    record {
      over = c.in_ok-next.ensures.over;
      flow = c.in_ok-next.ensures.flow ∙ c.loop-left.invariant.flow;
      within = omega (arith, c.loop-left.invariant.within);
      so_far = along.from_turn N c.args.at c.args.path.now c.args.types.now (c.loop-left.left - 1) c.index-path-left.result c.index-types-left.result c.index-types-left-in-loop-left.result NW (seen_ty c.loop-left.inner) (Gives (seen_ty c.in_ok-next.next)) LESS c.requires.along c.index-path-left.is c.index-types-left.is c.index-types-left-in-loop-left.is SOFAR c.in_ok-next.ensures.value;
    }
