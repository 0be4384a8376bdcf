use Rattle.std.proofs.Common.{◌≡◌, ◌∙◌, ℕ, List, map, ap, subst, arith}
use Rattle.wy_core.specs.CoreSeen.{seen_decl, seen_routine}
use Rattle.wy_core.specs.CoreTree.{Core, routines_of}
use Rattle.wy_assign.specs.wy_flow_spec.typing.TypedPrograms.{core_of}
use Rattle.wy_vc.specs.wy_vc_spec.wy_sem.Evaluation.{Declared, callee}
use Rattle.wy_aid.proofs.RoutineLemmas.{found_at}
use Rattle.wy_aid.proofs.trying.tried_on.Goals as goal

pub probe-requires : goal.probe-requires
probe-requires c =
    let core = core_of c.args.typed.now in
    let same : map seen_decl c.as_slice.result.now ≡ core = ap (λ l. map seen_decl l) c.as_slice.ensures ∙ c.core-core.ensures.value in
    let r = seen_routine c.in-Some-routine_at._routine.now in
    let found = subst (λ (l : Core ℕ). callee (routines_of l) c.in-Some.entry ≡ Declared r) same c.in-Some-routine_at.ensures.value in
    record { routine = (r, found_at (routines_of core) c.in-Some.entry r found); tuples = omega arith; ticks = omega arith }
