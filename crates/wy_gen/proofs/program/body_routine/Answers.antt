use Rattle.std.proofs.Common.{◌≡◌, ◌∙◌, List, [], ◌++◌, IfOk, length, map, ap, subst, arith}
use Rattle.std.proofs.lemmas.List.{length-map}
use Rattle.wy_code.specs.declared.routines.Routine.{Routine}
use Rattle.wy_core.specs.CoreSeen.{seen_block, seen_param}
use Rattle.wy_code.specs.declared.pieces.steps.Step.{Step}
use Rattle.wy_code.specs.pieces.Placing.{routine_of}
use Rattle.wy_code.specs.pieces.Steps.{clear}
use Rattle.wy_live.specs.Walks.{live_all, nothing}
use Rattle.wy_code_spec.specs.compiled.Programs.{unused_params}
use Rattle.wy_code_spec.specs.compiled.Statements.{gives_null, stmts_code}
use Rattle.wy_gen.proofs.RoutineLemmas.{body_steps_same}
use Rattle.wy_gen.proofs.program.body_routine.Goals as goal

pub returns : goal.returns
returns c =
    let r = c.args.routine.now in
    let body = c.as_slice.result.now in
    let params = c.as_slice-2.result.now in
    let free_is : c.in-Ok.free ≡ length r.variables = omega arith in
    let null_is : c.in_ok-end.end.steps ≡ gives_null c.in-Ok.free = c.in_ok-end.ensures.value ∙ ap (λ (l : List Step). gives_null c.in-Ok.free ++ l) c.none-2.ensures.value in
    let steps = body_steps_same c.args.context.now (map seen_param params) (seen_block body) (length r.variables) c.in-Ok.free c.len-2.result c.len-3.result c.nothing.result c.in_ok-end.end.live c.in_ok-made.made.live c.in_ok-end.end.steps c.in_ok-made.made.steps c.in_ok-steps.steps
    c.in_ok-unused.unused free_is c.in_ok-end.ensures.live null_is c.nothing.ensures.value c.len-2.ensures.value c.len-3.ensures.value c.in_ok-made.ensures.live c.in_ok-made.ensures.value c.in_ok-unused.ensures.value c.in_ok-steps.ensures.value in
    let b = c.as_slice.ensures in
    let p = c.as_slice-2.ensures in
    let all : c.in_ok-steps.steps ≡ clear (unused_params (live_all (seen_block r.body) [] nothing) (map seen_param r.params)) ++ (stmts_code c.args.context.now (seen_block r.body) [] nothing (length r.variables) 0 0 ++ gives_null (length r.variables))
    = steps ∙ (λ i. clear (unused_params (live_all (seen_block (b i)) [] nothing) (map seen_param (p i))) ++ (stmts_code c.args.context.now (seen_block (b i)) [] nothing (length r.variables) 0 0 ++ gives_null (length r.variables))) in
    let count : c.len-4.result ≡ length (map seen_param r.params) = omega (arith, length-map r.params seen_param) in
    record { value = subst (λ (z : Routine). IfOk c.routine_of.result (λ x. x ≡ z)) (λ i. routine_of (count i) (all i)) c.routine_of.ensures.value }
