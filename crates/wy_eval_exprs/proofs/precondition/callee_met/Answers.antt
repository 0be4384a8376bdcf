use Rattle.std.proofs.Common.{Some, map, refl, ap, subst}
use Rattle.wy_core.specs.CoreSeen.{seen_alias, seen_decl, seen_routine}
use Rattle.wy_core.specs.CoreTree.{routines_of}
use Rattle.wy_value.specs.Seen.{seen}
use Rattle.wy_sem.specs.Evaluation.{Declared, callee}
use Rattle.wy_sem.specs.Precondition as spec
use Rattle.wy_eval_exprs.specs.Outcomes.{meter_of}
use Rattle.wy_eval_exprs.specs.Settings.{here}
use Rattle.wy_eval_exprs.proofs.StepLemmas.{gives_as}
use Rattle.wy_eval_exprs.specs.Verdicts.{NoRoutine, verdict_of}
use Rattle.wy_eval_exprs.proofs.BeginLemmas.{callee_there}
use Rattle.wy_eval_exprs.proofs.precondition.callee_met.Goals as goal

pub returns-in-Some : goal.returns-in-Some
returns-in-Some c =
    let L = c.args.declared.now.limit in
    let types = map seen_alias c.args.declared.now.types in
    let vs = map seen c.args.args.now in
    let ds = c.args.core.now.decls in
    let n = c.args.entry in
    let R = seen_routine c.in-Some.routine.now in
    let M0 = meter_of c.args.meter.now in
    let there = callee_there c.as_slice.result.now ds n (Declared R) c.as_slice.ensures c.in-Some.ensures.value in
    record {
      value = gives_as verdict_of (spec.callee_met here (Some L) types (callee (routines_of (map seen_decl ds)) n) vs M0) (spec.routine_met here (Some L) types R vs M0) c.routine_met.result (meter_of c.routine_met.new.meter)
          (ap (λ x. spec.callee_met here (Some L) types x vs M0) there) c.routine_met.ensures.value;
      verdict = c.routine_met.ensures.verdict;
    }

pub returns-in-None : goal.returns-in-None
returns-in-None c =
    let L = c.args.declared.now.limit in
    let types = map seen_alias c.args.declared.now.types in
    let vs = map seen c.args.args.now in
    let n = c.args.entry in
    let M0 = meter_of c.args.meter.now in
    let nowhere = subst NoRoutine (ap (λ l. callee (routines_of (map seen_decl l)) n) c.as_slice.ensures) c.in-None.ensures.value in
    record { value = nowhere L types vs M0; verdict = refl }
