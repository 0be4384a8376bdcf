use Rattle.std.proofs.Common.{◌≡◌, ◌∙◌, ℕ, map, ap, subst}
use Rattle.wy_core.specs.CoreSeen.{seen_decl}
use Rattle.wy_core.specs.CoreTree.{Core, routines_of}
use Rattle.wy_flow_spec.specs.typing.TypedPrograms.{core_of}
use Rattle.wy_sem.specs.Evaluation.{callee}
use Rattle.wy_eval_exprs.specs.Verdicts.{NoRoutine}
use Rattle.wy_probe.proofs.RoutineLemmas.{is_routine}
use Rattle.wy_probe.proofs.probing.probe.Goals as goal

pub unreachable-requires : goal.unreachable-requires
unreachable-requires c =
    let core = core_of c.args.typed.now in
    let same : map seen_decl c.as_slice.result.now ≡ core = ap (λ l. map seen_decl l) c.as_slice.ensures ∙ c.core-core.ensures.value in
    let none = subst (λ (l : Core ℕ). NoRoutine (callee (routines_of l) c.args.entry)) same c.in-None.ensures.value in
    is_routine (routines_of core) c.args.entry c.requires.routine.0 c.requires.routine.1 none
