use Rattle.std.proofs.Common.{◌≡◌, ◌+◌, ◌≤◌, suc, Some, Err, map, length, ◌∙◌, subst, refl, arith}
use Rattle.wy_core.specs.CoreSeen.{seen_core, seen_decl}
use Rattle.wy_core.specs.CoreTree.{routines_of}
use Rattle.wy_value.specs.Seen.{seen}
use Rattle.wy_sem.specs.Evaluation.{Declared, callee, place_of, run as spec_run}
use Rattle.wy_core.specs.CoreSeen.{seen_routine}
use Rattle.wy_sem.specs.Meter.{Done, Fault, More}
use Rattle.wy_eval_exprs.specs.declared.stop.Stop.TheVariants as stop
use Rattle.wy_eval_exprs.specs.Operands.{seen_option}
use Rattle.wy_eval_exprs.specs.Outcomes.{Gives, meter_of, stopped}
use Rattle.wy_eval_exprs.specs.Settings.{here}
use Rattle.wy_eval.proofs.EndingLemmas.{ends_exactly, evaluated, placed, placed_behind, spent_exactly, starts, with_output}
use Rattle.wy_eval.proofs.ending.eval.Goals as goal
use Rattle.wy_eval.proofs.ending.eval.Goals.{in-Some, in-None}

pub returns-in-Ok : goal.returns-in-Ok
returns-in-Ok c =
    let core = seen_core c.args.core.now in
    let rs = routines_of core in
    let n = c.args.entry in
    let vs = map seen c.args.args.now in
    let T = c.args.turns in
    let D = c.in_ok-program.program.declared in
    let A = c.match-find.at in
    let M = with_output c.args.ticks c.new.result.items in
    let K = meter_of c.run-ended.new.meter in
    let j = c.args.ticks + 1 in
    let nested : j ≡ suc c.args.ticks = omega arith in
    let there : A ≡ place_of (callee rs n) = elim c.match-find.branch [
      | in-Some w ↦ w.at-is ∙ placed rs n w.in-Some.routine.now (subst (λ ds. callee (routines_of (map seen_decl ds)) n ≡ Declared (seen_routine w.in-Some.routine.now)) c.as_slice-decls.ensures w.in-Some.ensures.value)
      | in-None w ↦ w.at-is ∙ placed_behind rs n (subst (λ ds. length (routines_of (map seen_decl ds)) ≤ n) c.as_slice-decls.ensures w.in-None.ensures.value)
    ] in
    let O = spec_run here (Some D.limit) core j n A vs M in
    let begun = starts c.args.ticks c.new.result.items c.new.ensures.items in
    let is = evaluated core D.limit T n A c.args.ticks j vs M (Done (seen_option c.in-Ok.value) K) c.in_ok-program.ensures.limit nested there begun c.in-Ok.ensures.value in
    record { value = (K, is, refl); exact = ends_exactly T core n vs c.args.ticks (Done (seen_option c.in-Ok.value)) K.output (λ m q. cc) (K, is, refl) }

pub returns-in-Fault : goal.returns-in-Fault
returns-in-Fault c =
    let core = seen_core c.args.core.now in
    let rs = routines_of core in
    let n = c.args.entry in
    let vs = map seen c.args.args.now in
    let T = c.args.turns in
    let D = c.in_ok-program.program.declared in
    let A = c.match-find.at in
    let M = with_output c.args.ticks c.new.result.items in
    let K = meter_of c.run-ended.new.meter in
    let j = c.args.ticks + 1 in
    let nested : j ≡ suc c.args.ticks = omega arith in
    let there : A ≡ place_of (callee rs n) = elim c.match-find.branch [
      | in-Some w ↦ w.at-is ∙ placed rs n w.in-Some.routine.now (subst (λ ds. callee (routines_of (map seen_decl ds)) n ≡ Declared (seen_routine w.in-Some.routine.now)) c.as_slice-decls.ensures w.in-Some.ensures.value)
      | in-None w ↦ w.at-is ∙ placed_behind rs n (subst (λ ds. length (routines_of (map seen_decl ds)) ≤ n) c.as_slice-decls.ensures w.in-None.ensures.value)
    ] in
    let O = spec_run here (Some D.limit) core j n A vs M in
    let begun = starts c.args.ticks c.new.result.items c.new.ensures.items in
    let told = subst (λ e. Gives seen_option O (Err e) K) c.in-Fault.is c.in-Err.ensures.value in
    let is = evaluated core D.limit T n A c.args.ticks j vs M (stopped (stop.Fault c.in-Fault.kind c.in-Fault.at) K) c.in_ok-program.ensures.limit nested there begun (told (λ q. cc)) in
    record { value = (K, is, refl); exact = ends_exactly T core n vs c.args.ticks (Fault c.in-Fault.kind c.in-Fault.at) K.output (λ m q. cc) (K, is, refl) }

pub returns-in-More : goal.returns-in-More
returns-in-More c =
    let core = seen_core c.args.core.now in
    let rs = routines_of core in
    let n = c.args.entry in
    let vs = map seen c.args.args.now in
    let T = c.args.turns in
    let D = c.in_ok-program.program.declared in
    let A = c.match-find.at in
    let M = with_output c.args.ticks c.new.result.items in
    let K = meter_of c.run-ended.new.meter in
    let j = c.args.ticks + 1 in
    let nested : j ≡ suc c.args.ticks = omega arith in
    let there : A ≡ place_of (callee rs n) = elim c.match-find.branch [
      | in-Some w ↦ w.at-is ∙ placed rs n w.in-Some.routine.now (subst (λ ds. callee (routines_of (map seen_decl ds)) n ≡ Declared (seen_routine w.in-Some.routine.now)) c.as_slice-decls.ensures w.in-Some.ensures.value)
      | in-None w ↦ w.at-is ∙ placed_behind rs n (subst (λ ds. length (routines_of (map seen_decl ds)) ≤ n) c.as_slice-decls.ensures w.in-None.ensures.value)
    ] in
    let O = spec_run here (Some D.limit) core j n A vs M in
    let begun = starts c.args.ticks c.new.result.items c.new.ensures.items in
    let told = subst (λ e. Gives seen_option O (Err e) K) c.in-More.is c.in-Err.ensures.value in
    let is = evaluated core D.limit T n A c.args.ticks j vs M (stopped (stop.More) K) c.in_ok-program.ensures.limit nested there begun (told (λ q. cc)) in
    record { value = (K, is, refl); exact = ends_exactly T core n vs c.args.ticks More K.output (λ m q. cc) (K, is, refl) }

pub returns-in-Spent : goal.returns-in-Spent
returns-in-Spent c =
    let core = seen_core c.args.core.now in
    let rs = routines_of core in
    let n = c.args.entry in
    let vs = map seen c.args.args.now in
    let T = c.args.turns in
    let D = c.in_ok-program.program.declared in
    let A = c.match-find.at in
    let M = with_output c.args.ticks c.new.result.items in
    let K = meter_of c.run-ended.new.meter in
    let j = c.args.ticks + 1 in
    let nested : j ≡ suc c.args.ticks = omega arith in
    let there : A ≡ place_of (callee rs n) = elim c.match-find.branch [
      | in-Some w ↦ w.at-is ∙ placed rs n w.in-Some.routine.now (subst (λ ds. callee (routines_of (map seen_decl ds)) n ≡ Declared (seen_routine w.in-Some.routine.now)) c.as_slice-decls.ensures w.in-Some.ensures.value)
      | in-None w ↦ w.at-is ∙ placed_behind rs n (subst (λ ds. length (routines_of (map seen_decl ds)) ≤ n) c.as_slice-decls.ensures w.in-None.ensures.value)
    ] in
    let O = spec_run here (Some D.limit) core j n A vs M in
    let begun = starts c.args.ticks c.new.result.items c.new.ensures.items in
    let told = subst (λ e. Gives seen_option O (Err e) K) c.in-Spent.is c.in-Err.ensures.value in
    let is = evaluated core D.limit T n A c.args.ticks j vs M (stopped (stop.Spent) K) c.in_ok-program.ensures.limit nested there begun (told (λ q. cc)) in
    record { value = is; exact = spent_exactly T core n vs c.args.ticks is }
