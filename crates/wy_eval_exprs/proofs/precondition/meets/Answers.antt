use Rattle.std.proofs.Common.{Some, None, Err, map, ◌∙◌, subst}
use Rattle.wy_core.specs.CoreSeen.{seen_alias, seen_core}
use Rattle.wy_core.specs.CoreTree.{routines_of}
use Rattle.wy_value.specs.Seen.{seen}
use Rattle.wy_sem.specs.Evaluation.{callee}
use Rattle.wy_sem.specs.Precondition as spec
use Rattle.wy_sem.proofs.Limits.{limit_is_exact}
use Rattle.wy_sem.proofs.MeetsAnswers.{met_is_exact}
use Rattle.wy_eval_exprs.specs.Outcomes.{Gives, meter_of}
use Rattle.wy_eval_exprs.specs.Settings.{here}
use Rattle.wy_eval_exprs.specs.declared.precondition.MeetsEnd.TheVariants as end
use Rattle.wy_eval_exprs.specs.Verdicts.{verdict_of}
use Rattle.wy_eval_exprs.proofs.EndLemmas.{begins, exact, says_verdict}
use Rattle.wy_eval_exprs.proofs.precondition.meets.Goals as goal

pub returns-in-Ok : goal.returns-in-Ok
returns-in-Ok c =
    let core = seen_core c.args.core.now in
    let n = c.args.entry in
    let vs = map seen c.args.args.now in
    let T = c.args.turns in
    let D = c.in_ok-declared.declared in
    let K = meter_of c.callee_met.new.meter in
    let begun = begins T D.limit (map seen_alias D.types) core n vs c.new.result.items c.in_ok-declared.ensures.limit c.in_ok-declared.ensures.types c.new.ensures.items in
    let law = limit_is_exact here core n vs T in
    let tells = met_is_exact here core n vs in
    let says = says_verdict c.in-Ok.end (spec.precondition here (Some T) core n vs) K (begun ∙ c.in-Ok.ensures.value) c.in-Ok.ensures.verdict in
    record { value = says; exact = exact c.in-Ok.end T (spec.cost here core n vs) (spec.precondition here None core n vs) (spec.precondition here (Some T) core n vs) (spec.Meets here core n vs) law.test law.test_unspent tells says }

pub returns-in-Err-Spent : goal.returns-in-Err-Spent
returns-in-Err-Spent c =
    let core = seen_core c.args.core.now in
    let n = c.args.entry in
    let vs = map seen c.args.args.now in
    let T = c.args.turns in
    let D = c.in_ok-declared.declared in
    let K = meter_of c.callee_met.new.meter in
    let begun = begins T D.limit (map seen_alias D.types) core n vs c.new.result.items c.in_ok-declared.ensures.limit c.in_ok-declared.ensures.types c.new.ensures.items in
    let law = limit_is_exact here core n vs T in
    let tells = met_is_exact here core n vs in
    let O = spec.callee_met here (Some D.limit) (map seen_alias D.types) (callee (routines_of core) n) vs (record { ticks = 0; turns = 0; output = c.new.result.items }) in
    let told = subst (λ e. Gives verdict_of O (Err e) K) c.in-Err-Spent.field-0-is c.in-Err-Spent.ensures.value in
    let spent = begun ∙ told (λ q. cc) in
    record { value = spent; exact = exact end.TurnsSpent T (spec.cost here core n vs) (spec.precondition here None core n vs) (spec.precondition here (Some T) core n vs) (spec.Meets here core n vs) law.test law.test_unspent tells spent }
