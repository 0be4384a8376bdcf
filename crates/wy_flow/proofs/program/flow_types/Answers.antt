use Rattle.std.proofs.Common.{map, sym}
use Rattle.wy_core.specs.CoreSeen.{seen_decl}
use Rattle.wy_flow_exprs.specs.Seen.{seen_flow, seen_program}
use Rattle.wy_lemmas.proofs.Lists.{next_of as item_and_rest}
use Rattle.wy_flow_spec.specs.typing.Outcomes.{gave}
use Rattle.wy_flow_spec.specs.typing.Programs as programs
use Rattle.wy_flow_exprs.proofs.checks_lemmas.StepLemmas.{first_refused}
use Rattle.wy_flow.proofs.WalkLemmas.{moved, shifted, onto}
use Rattle.wy_flow.proofs.program.flow_types.Goals as goal

pub returns-in_err-decl_typed : goal.returns-in_err-decl_typed
returns-in_err-decl_typed c =
    let P = seen_program c.args.program.now in
    let F = seen_flow c.loop-decl.walk in
    let I = c.decl-item.result in
    record {
      value = onto _ _ _ _ c.loop-decl.invariant.steps
          (moved (λ l. programs.DeclsTyped P (map seen_decl l) F) _ _ _ _ (sym (item_and_rest c.args.decls.now c.loop-decl.decl-index I c.loop-decl-test.true c.decl-item.is)) (first_refused _ _ _ _ _ c.in_err-decl_typed.ensures.value c.from_residual-in_err-decl_typed.ensures.1));
    }

pub loop-decl-preserved : goal.loop-decl-preserved
loop-decl-preserved c =
    let P = seen_program c.args.program.now in
    let F = seen_flow c.loop-decl.walk in
    let I = c.decl-item.result in
    record {
      over = c.in_ok-decl_typed.ensures.over;
      steps = λ o h. c.loop-decl.invariant.steps o (shifted (λ l. programs.DeclsTyped P (map seen_decl l) F) _ _ _ (sym (item_and_rest c.args.decls.now c.loop-decl.decl-index I c.loop-decl-test.true c.decl-item.is))
          (gave (seen_flow c.decl_typed.new.walk) _ c.in_ok-decl_typed.ensures.value h));
    }
